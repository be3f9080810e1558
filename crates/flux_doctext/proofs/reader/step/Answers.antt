use Rattle.flux_doctext.proofs.reader.step.Goals as goal

pub returns-in-Content-clause-next : goal.returns-in-Content-clause-next
returns-in-Content-clause-next c =
    let is = c.in-Content.is in
    let taken = rw c.of-sign.ensures at (c.in_content.ensures c.args.names.now) in
    rw is taken

pub returns-in-Tree-clause-next : goal.returns-in-Tree-clause-next
returns-in-Tree-clause-next c =
    let is = c.in-Tree.is in
    let taken = rw c.of-sign.ensures at (c.at_tree.ensures c.args.names.now c.args.forest.now tt) in
    rw is taken

pub returns-in-Opened-clause-next : goal.returns-in-Opened-clause-next
returns-in-Opened-clause-next c =
    let is = c.in-Opened.is in
    let taken = rw c.of-sign.ensures at (c.in_parentheses.ensures c.args.names.now c.args.forest.now) in
    rw is taken

pub returns-in-Closed-clause-next : goal.returns-in-Closed-clause-next
returns-in-Closed-clause-next c =
    let is = c.in-Closed.is in
    let taken = rw c.of-sign.ensures at (c.behind_parentheses.ensures c.args.names.now) in
    rw is taken

pub returns-in-Text-clause-next : goal.returns-in-Text-clause-next
returns-in-Text-clause-next c =
    let is = c.in-Text.is in
    rw is (c.in_text.ensures c.args.names.now)

pub returns-in-Behind-clause-next : goal.returns-in-Behind-clause-next
returns-in-Behind-clause-next c =
    let is = c.in-Behind.is in
    let taken = rw c.of-sign.ensures at (c.behind_tree.ensures c.args.names.now) in
    rw is taken

pub returns-in-Number-clause-next : goal.returns-in-Number-clause-next
returns-in-Number-clause-next c =
    let is = c.in-Number.is in
    let taken = rw c.of-sign.ensures at (c.in_number.ensures c.args.names.now) in
    rw is taken
