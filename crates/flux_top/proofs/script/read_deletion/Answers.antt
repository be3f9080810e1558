use Rattle.std.proofs.Common.{All, ◌<◌, length, map, inl}
use Rattle.flux_atom.specs.Names.{name_text}
use Rattle.flux_top.specs.Script.{IsDeletion, DeletesPath}
use Rattle.flux_top.proofs.Labelled.{deletion_known}
use Rattle.flux_top.proofs.Refused.{ok_more, deletes, refused_other}
use Rattle.flux_top.proofs.script.read_deletion.Goals as goal

pub returns-in-Ok-clause-path : goal.returns-in-Ok-clause-path
returns-in-Ok-clause-path c =
    let read = c.in-Ok.ensures.normal in
    ok_more (λ path. IsDeletion c.in-Ok.reading.tree path.items) (λ path. DeletesPath c.args.script.now (map (name_text c.read_script.new.names) path.items)) (λ path is. deletes _ _ _ _ read.reads read.no_fault is) c.deleted_path.result c.deleted_path.ensures.path

pub returns-in-Ok-clause-some : goal.returns-in-Ok-clause-some
returns-in-Ok-clause-some c =
    ok_more (λ path. IsDeletion c.in-Ok.reading.tree path.items) (λ path. 0 < length path.items) (λ path is. (deletion_known _ _ _ _ c.in-Ok.ensures.normal.reads is).0) c.deleted_path.result c.deleted_path.ensures.path

pub returns-in-Ok-clause-known : goal.returns-in-Ok-clause-known
returns-in-Ok-clause-known c =
    ok_more (λ path. IsDeletion c.in-Ok.reading.tree path.items) (λ path. All (λ n. n < length c.read_script.new.names) path.items) (λ path is. (deletion_known _ _ _ _ c.in-Ok.ensures.normal.reads is).1) c.deleted_path.result c.deleted_path.ensures.path

pub returns-in-Ok-clause-refused : goal.returns-in-Ok-clause-refused
returns-in-Ok-clause-refused c =
    let read = c.in-Ok.ensures.normal in
    refused_other c.args.script.now c.in-Ok.reading.tree c.read_script.new.names read.reads read.no_fault c.deleted_path.result c.deleted_path.ensures.refused

pub returns-in-Err-clause-refused : goal.returns-in-Err-clause-refused
returns-in-Err-clause-refused c = inl c.in-Err.ensures.refused
