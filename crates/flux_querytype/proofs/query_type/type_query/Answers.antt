use Rattle.std.proofs.Common.{refl}
use Rattle.flux_types.specs.Read.{ty_of}
use Rattle.flux_query.specs.Read.{query_of}
use Rattle.flux_querytype.proofs.Known.{Scope, Ready, typed_usable, usable_owned}
use Rattle.flux_querytype.proofs.Typed.{has_owned}
use Rattle.flux_querytype.proofs.query_type.type_query.Goals as goal

pub type_of-requires : goal.type_of-requires
type_of-requires g c = record {
  ready = record { kept = c.defs-defs.ensures.good; lacks = c.other-other.ensures.lacks; usable = c.requires.usable; gamma = c.requires.gamma_lacks };
  query_lacks = c.requires.query_lacks;
}

pub returns-clause-typed : goal.returns-clause-typed
returns-clause-typed g c =
    has_owned (g.D.Decider.definitions c.args.decider.now, g.D.Decider.unnamed c.args.decider.now) c.args.gamma.now (query_of c.args.query.now) c.in_ok-ty.ty c.in_ok-made.made.ty.value c.in_ok-ty.ensures c.in_ok-made.ensures.answer

pub returns-clause-usable : goal.returns-clause-usable
returns-clause-usable g c =
    let scope : Scope = (g.D.Decider.definitions c.args.decider.now, g.D.Decider.unnamed c.args.decider.now) in
    let ready : Ready scope c.args.gamma.now = record { kept = c.defs-defs.ensures.good; lacks = c.other-other.ensures.lacks; usable = c.requires.usable; gamma = c.requires.gamma_lacks } in
    (usable_owned scope scope c.in_ok-ty.ty c.in_ok-made.made.ty.value c.in_ok-ty.ensures refl
    (typed_usable scope c.args.gamma.now (query_of c.args.query.now) (ty_of c.in_ok-made.made.ty.value) ready c.requires.query_lacks c.in_ok-made.ensures.answer c.in_ok-made.made.limits)).0

pub returns-clause-lacks : goal.returns-clause-lacks
returns-clause-lacks g c =
    let scope : Scope = (g.D.Decider.definitions c.args.decider.now, g.D.Decider.unnamed c.args.decider.now) in
    let ready : Ready scope c.args.gamma.now = record { kept = c.defs-defs.ensures.good; lacks = c.other-other.ensures.lacks; usable = c.requires.usable; gamma = c.requires.gamma_lacks } in
    (usable_owned scope scope c.in_ok-ty.ty c.in_ok-made.made.ty.value c.in_ok-ty.ensures refl
    (typed_usable scope c.args.gamma.now (query_of c.args.query.now) (ty_of c.in_ok-made.made.ty.value) ready c.requires.query_lacks c.in_ok-made.ensures.answer c.in_ok-made.made.limits)).1
