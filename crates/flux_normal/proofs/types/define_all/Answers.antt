use Rattle.std.proofs.Common.{ℕ, List, subst, sym, ap, ◌∙◌}
use Rattle.flux_grammar.specs.TypeOf.{type_in}
use Rattle.flux_schema.specs.Definitions.{declared_names}
use Rattle.flux_types.specs.Read.{ty_of}
use Rattle.flux_normal.specs.Types.{IsFine}
use Rattle.flux_normal.proofs.Defined.{fine_at, one_defined}
use Rattle.flux_normal.proofs.types.define_all.Goals as goal

pub made_within-requires : goal.made_within-requires
made_within-requires c =
    let d = c.index-types-index.result in
    let old = declared_names c.args.known.now in
    let fine = fine_at old c.args.types.now c.loop-index.index d c.loop-index-test.true c.index-types-index.is c.requires.fine in
    subst (λ (names : List ℕ). IsFine names d.body) (sym c.loop-index.invariant.names) fine

pub loop-index-preserved : goal.loop-index-preserved
loop-index-preserved c =
    let d = c.index-types-index.result in
    let now = c.loop-index.known in
    let same = ap (λ (names : List ℕ). type_in names d.body) (sym c.loop-index.invariant.names) ∙ c.in_ok-body.ensures.ty.same in
    one_defined c.args.types.now c.args.known.now now c.define.new.self c.loop-index.index d (ty_of c.in_ok-body.body)
    c.loop-index-test.true c.index-types-index.is c.requires.names c.in_ok-define.ensures.ok same c.loop-index.invariant
