use Rattle.tk_words.proofs.sources.source.FromReadSource.read.Goals as goal

pub returns-in-Err-clause-ok : goal.returns-in-Err-clause-ok
returns-in-Err-clause-ok g c = tt
