use Rattle.tk_engines.proofs.engines.search_given.check_cities.Goals as goal

pub returns-in-Ok-RepeatedCity-clause-ok : goal.returns-in-Ok-RepeatedCity-clause-ok
returns-in-Ok-RepeatedCity-clause-ok c = tt

pub returns-in-Ok-RepeatedCity-clause-is : goal.returns-in-Ok-RepeatedCity-clause-is
returns-in-Ok-RepeatedCity-clause-is c = tt
