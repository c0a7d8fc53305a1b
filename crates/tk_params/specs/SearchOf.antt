-- The search of stored settings.
use Rattle.tk_params.specs.declared.search_settings.SearchSettings.{SearchSettings}
use Rattle.tk_params.specs.Requested.{SearchIs}

abbrev pub search_is : SearchSettings → SearchIs
search_is s =
    record {
      runs = s.runs;
      max_trials = s.max_trials;
      seed = s.seed;
      max_candidates = s.max_candidates;
      construction = s.construction;
      final_sweep = s.final_sweep;
      or_segment = s.or_segment;
    }
