use Rattle.std.proofs.Common.{◌≡◌, ◌∙◌, Some, option_map, refl, ap, subst, sym}
use Rattle.tk_params.specs.declared.key.Key.TheVariants as keys
use Rattle.tk_params.specs.declared.params.Params.TheInside.{Inside as Fields}
use Rattle.tk_params.specs.Requested.{AreWithinLimits, requested_of, file_in}
use Rattle.tk_params.specs.Reader.Stored.{params_in}
use Rattle.tk_params.specs.Values.{look}
use Rattle.tk_params.proofs.Limits.{asked_within}
use Rattle.tk_params.proofs.params.Params.from_settings.Goals as goal
use Rattle.tk_params.proofs.params.Params.from_settings.Goals.{After-take_file-4}

abbrev fields : After-take_file-4 → Fields
fields c =
    record {
      problem_file = c.in_ok-problem_file.problem_file;
      tour_file = c.take_file-2.result;
      solution_file = c.take_file-3.result;
      initial_tour_file = c.take_file-4.result;
      search = c.search-search.result;
      ignored = c.into_parts-entries.result.1;
    }

named : (c : After-take_file-4) →
    Some (params_in (fields c)).problem_file ≡ file_in (look keys.ProblemFile c.args.settings)
named c = c.in_ok-problem_file.ensures.file
    ∙ ap (λ ss. file_in (look keys.ProblemFile ss)) c.into_parts-entries.ensures.settings

is_asked : (c : After-take_file-4) →
    params_in (fields c) ≡ requested_of (params_in (fields c)).problem_file c.args.settings
unfolding requested_of
is_asked c =
    let start = c.into_parts-entries.ensures.settings in
    let first = c.take_file.ensures.others in
    let second = c.take_file-2.ensures.others in
    let third = c.take_file-3.ensures.others in
    rw (
      ← (c.take_file-2.ensures.file ∙ ap file_in (first keys.TourFile refl ∙ ap (look keys.TourFile) start)),
      ← (c.take_file-3.ensures.file ∙ ap file_in (second keys.SolutionFile refl ∙ first keys.SolutionFile refl
          ∙ ap (look keys.SolutionFile) start)),
      ← (c.take_file-4.ensures.file ∙ ap file_in (third keys.InitialTourFile refl ∙ second keys.InitialTourFile refl
          ∙ first keys.InitialTourFile refl ∙ ap (look keys.InitialTourFile) start)),
      ← c.search-search.ensures,
      ← c.into_parts-entries.ensures.ignored,
    ) refl

pub invariant_of-result : goal.invariant_of-result
invariant_of-result c =
    let at = (goal.at.invariant_of-result c).After-take_file-4 in
    let settings = c.into_parts-entries.ensures in
    subst AreWithinLimits (sym (is_asked at)) (asked_within _ settings.limits _ settings.apart (sym (named at)))

pub returns : goal.returns
returns c =
    let at = (goal.at.returns c).After-take_file-4 in
    ap Some (is_asked at) ∙ ap (option_map (λ problem. requested_of problem c.args.settings)) (named at)
