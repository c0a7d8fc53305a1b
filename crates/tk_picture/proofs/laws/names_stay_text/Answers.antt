use Rattle.tk_picture.proofs.NoMarkup.{no_markup_name}
use Rattle.tk_picture.proofs.laws.names_stay_text.Goals as goal

pub returns : goal.returns
returns c = no_markup_name c.args.name.now
