use Rattle.tk_starts.specs.PathEnds.{at}
use Rattle.tk_starts.proofs.Merging.Paths.PathLists.{IsLinked-from_links}
use Rattle.tk_starts.proofs.merges.paths.Paths.join.Goals as goal

pub returns-clause-linked : goal.returns-clause-linked
returns-clause-linked c =
    IsLinked-from_links c.args.i c.args.j (at c.args.self.now.one.items) (at c.args.self.now.two.items)
    (at c.link.new.self.one.items) (at c.link.new.self.two.items) (at c.link-2.new.self.one.items)
    (at c.link-2.new.self.two.items)
    c.requires.cities.2 c.link.ensures.linked c.link.ensures.rest c.link-2.ensures.linked c.link-2.ensures.rest
