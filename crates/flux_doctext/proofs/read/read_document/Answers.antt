use Rattle.std.proofs.Common.{◌≡◌, ℕ, ◌+◌, List, [], ◌++◌, sym, ap, ◌∙◌, append_assoc, arith}
use Rattle.std.proofs.lemmas.List.{append-nil}
use Rattle.flux_doctext.proofs.DocumentLaws.{begins_reading, byte_taken, run_passed, misfit, document_ends, document_unended}
use Rattle.flux_doctext.proofs.read.read_document.Goals as goal

more_still : (old names new : List (List ℕ)) → (more : List (List ℕ)) × (names ≡ old ++ more) → (more : List (List ℕ)) × (new ≡ names ++ more) → (more : List (List ℕ)) × (new ≡ old ++ more)
more_still old names new (more, is) (others, are) =
    (more ++ others, are ∙ ap (λ l. l ++ others) is ∙ append_assoc old more others)

pub bytes-init : goal.bytes-init
bytes-init c = record {
  more = ([], sym (append-nil c.args.names.now));
  room = omega arith;
  passed = begins_reading c.args.names.now c.args.bytes.now c.new-forest.result c.len-held.ensures.table c.new-forest.ensures;
}

pub bytes-preserved : goal.bytes-preserved
bytes-preserved c =
    let grown = c.in_ok-next.ensures.grown in
    let taken = rw c.in-Some.is at c.in_ok-next.ensures.next in
    let passed = byte_taken c.args.names.now c.bytes.names c.step.new.names c.args.bytes.now c.bytes.place c.bytes.forest c.step.new.forest c.bytes.state c.in-Some.next c.bytes.invariant.passed c.bytes-test.true (grown.table c.bytes.invariant.passed.reader.table) taken in
    record {
      more = more_still c.args.names.now c.bytes.names c.step.new.names c.bytes.invariant.more grown.more;
      room = omega (arith, grown.room, c.bytes.invariant.room);
      passed = run_passed c.args.names.now c.step.new.names c.args.bytes.now (c.bytes.place + 1) c.in_ok-place.field-0 c.step.new.forest c.in-Some.next c.pass_plain.new.state passed c.in_ok-place.ensures;
    }

pub returns-in_default-clause-fault : goal.returns-in_default-clause-fault
returns-in_default-clause-fault c =
    let none = rw c.in_default.is at c.in_ok-next.ensures.next in
    misfit c.args.names.now c.bytes.names c.args.bytes.now c.bytes.place c.bytes.forest c.bytes.state c.bytes.invariant.passed c.bytes-test.true none

pub returns-then-branch-clause-ok : goal.returns-then-branch-clause-ok
returns-then-branch-clause-ok c =
    let ended = rw c.if-branch.true at (c.in_ok-end.ensures c.bytes.names) in
    document_ends c.args.names.now c.bytes.names c.args.bytes.now c.bytes.place c.bytes.forest c.end.new.forest c.bytes.state c.bytes.invariant.passed c.bytes-test.false ended

pub returns-else-branch-clause-fault : goal.returns-else-branch-clause-fault
returns-else-branch-clause-fault c =
    let unended = rw c.if-branch.false at (c.in_ok-end.ensures c.bytes.names) in
    document_unended c.args.names.now c.bytes.names c.args.bytes.now c.bytes.place c.bytes.forest c.bytes.state c.bytes.invariant.passed c.bytes-test.false unended
