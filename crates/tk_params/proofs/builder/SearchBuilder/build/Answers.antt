use Rattle.std.proofs.Common.{◌∙◌, ap}
use Rattle.tk_params.specs.Requested.{searched}
use Rattle.tk_params.proofs.builder.SearchBuilder.build.Goals as goal

pub returns : goal.returns
returns c = c.search.ensures ∙ ap searched c.self.view_is
