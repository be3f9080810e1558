use Rattle.std.proofs.Common.{◌∙◌, ◌++◌, ◌∷◌, [], length, sym, ap, subst}
use Rattle.flux_schema.specs.Labels.{Lacks, BodiesLack}
use Rattle.flux_types.specs.Read.{ty_of}
use Rattle.flux_types.specs.Verdicts.{IsEvidence}
use Rattle.flux_subtype.specs.Setting.{Setting}
use Rattle.flux_subtype.proofs.Deciding.{evidence}
use Rattle.flux_auto.proofs.TwoTypes.{lacks_edge, two_types}
use Rattle.flux_subtype.proofs.profiles.ProfilesDecider.included.Goals as goal

pub search-requires : goal.search-requires
search-requires c =
    let t = ty_of c.args.left.now in
    let u = ty_of c.args.right.now in
    let other = ap (λ (p : Setting). p.other) (sym c.self.view_is) in
    let types = two_types c.in_ok-auto.auto.types c.add.new.self.types c.add-2.new.self.types t u c.in_ok-auto.ensures.none c.in_ok-left.ensures.types c.in_ok-right.ensures.types in
    let defs = c.in_ok-right.ensures.definitions ∙ c.in_ok-left.ensures.definitions ∙ c.in_ok-auto.ensures.definitions in
    lacks_edge c.add-2.new.self t u c.self.inside.other c.states-states.ensures.labels types (subst (BodiesLack c.self.inside.other) (sym defs) c.self.invariant)
    (subst (λ n. Lacks n t) other c.requires.left_lacks) (subst (λ n. Lacks n u) other c.requires.right_lacks)

pub returns-clause-verdict : goal.returns-clause-verdict
returns-clause-verdict c =
    let t = ty_of c.args.left.now in
    let u = ty_of c.args.right.now in
    let types = two_types c.in_ok-auto.auto.types c.add.new.self.types c.add-2.new.self.types t u c.in_ok-auto.ensures.none c.in_ok-left.ensures.types c.in_ok-right.ensures.types in
    let defs = c.in_ok-right.ensures.definitions ∙ c.in_ok-left.ensures.definitions ∙ c.in_ok-auto.ensures.definitions in
    subst (λ (p : Setting). IsEvidence p.definitions p.other t u c.in-Some.forest) c.self.view_is
    (evidence c.add-2.new.self _ c.self.inside.other t u c.in_ok-left.left c.in_ok-right.right c.state-left.result c.state-right.result c.in_ok-found.found c.in-Some.forest c.states-states.ensures.labels types defs
    (c.in_ok-left.ensures.start ∙ ap length c.in_ok-auto.ensures.none) (c.in_ok-right.ensures.start ∙ ap length (c.in_ok-left.ensures.types ∙ ap (λ l. l ++ t ∷ []) c.in_ok-auto.ensures.none))
    c.state-left.ensures.members c.state-right.ensures.members c.in-Some.is c.in_ok-found.ensures)
