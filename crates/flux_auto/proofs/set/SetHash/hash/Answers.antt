use Rattle.std.proofs.Common.{◌∙◌, ap, sym, List, ℕ}
use Rattle.std.specs.Hash.{slice, u64, fed_along}
use Rattle.flux_auto.specs.Set.{words_of}
use Rattle.flux_auto.proofs.SetLaws.{words-flags}
use Rattle.flux_auto.proofs.set.SetHash.hash.Goals as goal

pub returns : goal.returns
returns g c = fed_along _ _ _ (ap (λ (ws : List ℕ). slice u64 ws) (sym (words-flags c.self.inside.words.items c.self.inside.count c.self.invariant) ∙ ap words_of c.self.view_is)) c.hash.ensures
