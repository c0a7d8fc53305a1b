use Rattle.std.proofs.Common.{◌-◌, ◌∙◌, ap, arith, get_or}
use Rattle.std.proofs.lemmas.List.{get_or_default}
use Rattle.tk_segments.specs.Segments.{shown_place}
use Rattle.tk_segments.proofs.NoSegment.{no_segment}
use Rattle.tk_segments.proofs.SeenTours.Searching.{start_is, sum_more}
use Rattle.tk_segments.proofs.spots.spot_at.Goals as goal

pub overflow_sub-v : goal.overflow_sub-v
overflow_sub-v c =
    let h = c.index_at-index in
    omega (
      arith,
      start_is c.args.size h.result c.args.segments.now no_segment c.requires.laid h.ensures.index_in,
      h.ensures.from,
    )

pub place_in-requires-clause-inside : goal.place_in-requires-clause-inside
place_in-requires-clause-inside c =
    let h = c.index_at-index in
    omega (
      arith,
      start_is c.args.size h.result c.args.segments.now no_segment c.requires.laid h.ensures.index_in,
      h.ensures.from,
      h.ensures.to,
      sum_more h.result c.args.segments.now no_segment h.ensures.index_in,
    )

pub returns : goal.returns
returns c =
    let h = c.index_at-index in
    let r = c.args.segments.now in
    let segment = get_or r h.result no_segment in
    let s = start_is c.args.size h.result r no_segment c.requires.laid h.ensures.index_in in
    record {
      index_in = h.ensures.index_in;
      from = h.ensures.from;
      to = h.ensures.to;
      place_is = λ d. c.place_in.ensures.place
          ∙ ap (λ u. shown_place u (c.args.v - u.start)) (get_or_default r h.result no_segment d h.ensures.index_in)
          ∙ ap (λ u. shown_place (get_or r h.result d) (c.args.v - u))
          (start_is c.args.size h.result r d c.requires.laid h.ensures.index_in);
    }
