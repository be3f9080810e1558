use Rattle.std.proofs.Common.{Result, Ok, Err, IfOk, ◌∙◌, ◌<◌, ◌≡◌, ◌↔◌, IsTrue, IfSome, subst, ap, refl, arith, length, slice_get, get_or, map, ℕ, List}
use Rattle.std.proofs.lemmas.Option.{slice_get_read}
use Rattle.flux_schema.specs.Member.{Member}
use Rattle.flux_forest.specs.View.{forest_of}
use Rattle.flux_types.specs.Read.{ty_of}
use Rattle.flux_auto.specs.declared.auto.Added.{Added}
use Rattle.flux_auto.specs.declared.table.Row.{Row}
use Rattle.flux_auto.specs.Takes.{takes}
use Rattle.flux_auto.specs.Automaton.{Automaton}
use Rattle.flux_auto.specs.Built.{state_of}
use Rattle.flux_auto.proofs.Meaning.{length-map}
use Rattle.flux_auto.proofs.Adding.{member_shown}
use Rattle.flux_auto.proofs.auto.Auto.member.Goals as goal

-- what follows of each answer follows of the answer of a call
IfOk-implies : {T E : Type 0} (P Q : T → Type 0) → ((x : T) → P x → Q x) → (r : Result T E) → IfOk r P → IfOk r Q
IfOk-implies P Q f (Ok x) h = f x h
IfOk-implies P Q f (Err e) h = h

pub returns : goal.returns
returns c =
    let added = c.self.inside.added.items in
    let v = forest_of c.args.view in
    let within : c.args.start < length added = omega (arith, c.requires, ap (λ (a : Automaton). length a.types) c.self.view_is, length-map (λ (d : Added). ty_of d.ty) added) in
    let is = slice_get_read added _ c.args.start c.index.result.now refl within (c.index.ensures ∙ ap (λ (i : ℕ). get_or added i c.index.result.now) c.start.view_is) in
    IfOk-implies (λ b. b ≡ takes (map state_of c.as_slice-rows.result.now) c.index.result.now.state v) (λ b. IfSome (slice_get c.args.self.now.types c.args.start) (λ t. IsTrue b ↔ Member c.args.self.now.definitions v t)) (λ b e.
    subst (λ (a : Automaton). IfSome (slice_get a.types c.args.start) (λ t. IsTrue b ↔ Member a.definitions v t)) c.self.view_is
    (member_shown c.self.inside.defs c.self.inside.nullable.items c.self.inside.table added c.args.start c.index.result.now b v c.self.invariant is (e ∙ ap (λ (rows : List Row). takes (map state_of rows) c.index.result.now.state v) c.as_slice-rows.ensures.value)))
    c.is_taken.result c.is_taken.ensures
