use Rattle.flux_doctext.proofs.Taken.{text_closed, text_taken}
use Rattle.flux_doctext.proofs.reader.in_text.Goals as goal

pub into_word-requires : goal.into_word-requires
into_word-requires c =
    let closed = rw c.in-Closes.is at c.in_ok-take.ensures.ok in
    text_closed c.args.text c.take.new.self c.args.byte closed

pub returns-in-On : goal.returns-in-On
returns-in-On c = λ names.
    let taken = rw c.in-On.is at c.in_ok-take.ensures.ok in
    text_taken names c.args.text c.take.new.self c.args.byte c.args.forest.now c.requires taken
