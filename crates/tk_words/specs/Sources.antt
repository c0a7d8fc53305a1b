-- A `FromRead`, as its callers see it.
use Rattle.std.specs.Prelude.{Bool}
use Rattle.tk_words.specs.declared.sources.source.FromRead.{FromRead}

-- whether a read from this source has failed
abbrev pub has_failed : {R : Type 0} → FromRead R → Bool
has_failed source = source.failed
