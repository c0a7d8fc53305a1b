use Rattle.tk_outcomes.proofs.lines.info_lines.put_whole.Goals as goal

pub returns-then-whole : goal.returns-then-whole
returns-then-whole g c = rw c.if-whole.true c.put.ensures

pub returns-else-whole : goal.returns-else-whole
returns-else-whole g c = rw c.if-whole.false c.put-else-whole.ensures
