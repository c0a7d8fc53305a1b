-- How a reader takes further bytes.
use Rattle.std.specs.Prelude.{ℕ, ◌≤◌, Bool, true, false, List, ◌++◌, length, take, Result, Ok, Err}
use Rattle.tk_words.specs.declared.sources.text_reader.FeedResult.{FeedResult}
use Rattle.tk_words.specs.declared.sources.text_reader.FeedResult.TheVariants.{Taken, Done}
use Rattle.tk_words.specs.Texts.{Texts, DecidesEnded, DecidesWithin, IsReported, Answers}

-- at least one of the bytes is taken; or some of them complete the text, and the stored value is complete; or some of
-- them contain a fault
abbrev pub HasTaken : {V E : Type 0} → Texts V E → (List ℕ → Type 0) → V → Type 0 → List ℕ → List ℕ → Result FeedResult
    E →
    Type 0
HasTaken texts fed held complete before bytes (Ok (Taken n)) =
    (1 ≤ n) × (n ≤ length bytes) × fed (before ++ take n bytes)
HasTaken texts fed held complete before bytes (Ok Done) = DecidesWithin texts before bytes (Ok held) × complete
HasTaken texts fed held complete before bytes (Err f) = IsReported texts (DecidesWithin texts before bytes) f

-- if no bytes follow, the answer is that of the text
abbrev pub HasEnded : {V E W : Type 0} → Texts V E → (W → V) → List ℕ → Result W E → Type 0
HasEnded texts view before (Ok v) = DecidesEnded texts before (Ok (view v))
HasEnded texts view before (Err f) = IsReported texts (DecidesEnded texts before) f

-- all of the bytes are taken, within the limit; or they complete the text; or they contain a fault
abbrev pub HasTakenAll : {V E : Type 0} → Texts V E → (List ℕ → Type 0) → V → Type 0 → List ℕ → Result Bool E → Type 0
HasTakenAll texts fed held complete bs (Ok false) = fed bs × (length bs ≤ texts.limit)
HasTakenAll texts fed held complete bs (Ok true) = Answers texts bs (Ok held) × complete
HasTakenAll texts fed held complete bs (Err f) = IsReported texts (Answers texts bs) f
