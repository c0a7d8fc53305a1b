-- What the answer to rejected texts reports, by the fault that stopped the engine.
use Rattle.std.proofs.Common.{◌≡◌, ℕ, ◌+◌, ◌≤◌, ◌⊎◌, ◌∙◌, inl, inr, List, Option, Err, ap, arith, refl, subst}
use Rattle.tk_text.specs.Problem.{ProblemIs}
use Rattle.tk_text.specs.Texts.{Decided, IsReportedOf, OfText, Texts, answer_of, cause_of, texts_of}
use Rattle.tk_words.specs.declared.fault.TextFault.{TextFault}
use Rattle.tk_words.specs.declared.fault.TextKind.{TextKind}
use Rattle.tk_words.specs.declared.fault.TextKind.TheVariants as kinds
use Rattle.tk_tour.specs.declared.fault.TourFault.{TourFault}
use Rattle.tk_tour.specs.declared.fault.TourFault.TheVariants as tours
use Rattle.tk_engines.specs.Params.{param_cause_of, params_answer}
use Rattle.tk_params.specs.declared.fault.ParamFault.{ParamFault}
use Rattle.tk_params.specs.declared.fault.ParamKind.{ParamKind}
use Rattle.tk_params.specs.declared.fault.ParamKind.TheVariants as params
use Rattle.tk_engines.specs.declared.route_fault.RouteFault.{RouteFault}
use Rattle.tk_engines.specs.declared.route_fault.RouteFault.TheVariants as solutions
use Rattle.tk_engines.specs.declared.fault.Fault.{Fault}
use Rattle.tk_engines.specs.declared.fault.Fault.TheVariants as faults
use Rattle.tk_for_c.specs.Answers.{IsFaulty, IsFitIn, IsMisfitAnswer, IsRightRefusal, IsRightRefusalIn, IsStop}
use Rattle.tk_for_c.specs.Answers.{IsStopIn, NeverClashes, NoFault, NoRefusal}
use Rattle.tk_for_c.specs.Outcomes.{clash_answer, fault_answer, kind_answer, param_answer, param_kind_answer}
use Rattle.tk_for_c.specs.Outcomes.{param_number, refused, route_clash_answer, text_answer, text_number}
use Rattle.tk_for_c.specs.Solved.{AreParamsRefused, HasParamFault}
use Rattle.tk_for_c.specs.Texts.{HasFault}
use Rattle.tk_for_c.specs.declared.answer.Answer.{Answer}

-- an answer with status 2 reports a fault of the text itself, with its line and kind
reported_kind : (number line : ℕ) (kind : TextKind) (answer : Answer) → answer.status ≡ 2
    → answer ≡ kind_answer kind number line answer.needed
    → (answer ≡ refused number line (text_number kind) answer.needed) × (cause_of kind ≡ OfText)
reported_kind number line kinds.NoMemory answer two is = absurd (omega (arith, ap (λ (a : Answer). a.status) is))
reported_kind number line kinds.Read answer two is = absurd (omega (arith, ap (λ (a : Answer). a.status) is))
reported_kind number line kind answer two is = (is, refl)

pub faulty : {V : Type 0} (texts : Texts V TextFault) (number : ℕ) (text : List ℕ) (f : TextFault) (answer : Answer)
    → answer.status ≡ 2 → texts.cause f ≡ cause_of f.kind → answer ≡ text_answer number f answer.needed →
    HasFault texts text f → IsFaulty texts number text answer
faulty texts number text f answer two cause is h =
    let reported = reported_kind number f.line f.kind answer two is in
    record {
      fault = f;
      reported = reported.0;
      is = subst (IsReportedOf (Unit {0}) (λ e. answer_of texts text ≡ Err e) f) (cause ∙ reported.1) h;
    }

-- like reported_kind, for the parameters, which are the first text
reported_params : (line : ℕ) (kind : ParamKind) (answer : Answer) → answer.status ≡ 2
    → answer ≡ param_kind_answer kind line answer.needed
    → (answer ≡ refused 1 line (param_number kind) answer.needed) × (param_cause_of kind ≡ OfText)
reported_params line params.NoMemory answer two is = absurd (omega (arith, ap (λ (a : Answer). a.status) is))
reported_params line params.Read answer two is = absurd (omega (arith, ap (λ (a : Answer). a.status) is))
reported_params line kind answer two is = (is, refl)

pub params_refused : (parameters : List ℕ) (f : ParamFault) (answer : Answer) → answer.status ≡ 2
    → answer ≡ param_answer f answer.needed → HasParamFault parameters f → AreParamsRefused parameters answer
params_refused parameters f answer two is h =
    let reported = reported_params f.line f.kind answer two is in
    record {
      fault = f;
      reported = reported.0;
      is = subst (IsReportedOf (Unit {0}) (λ e. params_answer parameters ≡ Err e) f) reported.1 h;
    }

-- the answer to a clash reports the text that clashes
clash_text : (text : ℕ) (f : TourFault) (answer : Answer) → answer.status ≡ 2
    → answer ≡ clash_answer text f answer.needed → answer.text ≡ text
clash_text text tours.NoMemory answer two is = absurd (omega (arith, ap (λ (a : Answer). a.status) is))
clash_text text f answer two is = ap (λ (a : Answer). a.text) is

route_clash_text : (text : ℕ) (f : RouteFault) (answer : Answer) → answer ≡ route_clash_answer text f answer.needed →
    answer.text ≡ text
route_clash_text text (solutions.BadCustomer route number) answer is = ap (λ (a : Answer). a.text) is
route_clash_text text (solutions.ServedTwice customer) answer is = ap (λ (a : Answer). a.text) is
route_clash_text text (solutions.OverCapacity route load) answer is = ap (λ (a : Answer). a.text) is
route_clash_text text (solutions.NotServed customer) answer is = ap (λ (a : Answer). a.text) is
route_clash_text text (solutions.WrongCost read counted) answer is = ap (λ (a : Answer). a.text) is

module _ {V : Type 0} {decided : Decided V TextFault} {limit : ℕ} (misfit : V → Option Fault)
    (Clash : V → Fault → Type 0) (Second : V → Answer → Type 0) (first : ℕ) (some : 1 ≤ first) (problem : List ℕ)
    (answer : Answer) where
  first_refused : IsFaulty (texts_of decided limit) first problem answer →
      IsRightRefusalIn (texts_of decided limit) misfit Clash Second first problem answer
  first_refused h =
      let here : answer.text ≡ first = ap (λ (a : Answer). a.text) h.reported in
      record {
        known = inr (inl here);
        is_problem = λ _. h;
        is_second = λ e. absurd (omega arith);
        is_misfit = λ e. absurd (omega arith);
      }

  second_refused : answer.text ≡ first + 1
      → IsFitIn (texts_of decided limit) misfit problem (λ p. Second p answer
      ⊎ ((f : Fault) × Clash p f × (answer ≡ fault_answer first f answer.needed))) →
      IsRightRefusalIn (texts_of decided limit) misfit Clash Second first problem answer
  second_refused here h = record {
    known = inr (inr here);
    is_problem = λ e. absurd (omega arith);
    is_second = λ _. h;
    is_misfit = λ e. absurd (omega arith);
  }

  misfit_refused : IsMisfitAnswer (texts_of decided limit) misfit problem answer →
      IsRightRefusalIn (texts_of decided limit) misfit Clash Second first problem answer
  misfit_refused h =
      let here : answer.text ≡ 0 = ap (λ (a : Answer). a.text) h.2 in
      record {
        known = inl here;
        is_problem = λ e. absurd (omega arith);
        is_second = λ e. absurd (omega arith);
        is_misfit = λ _. h;
      }

  -- the answer to a fault that stopped an engine is correct
  pub right_refusal : (Tour Solution : V → TextFault → Type 0) → answer.status ≡ 2
      → ((p : V) (f : TextFault) → Tour p f → answer ≡ text_answer (first + 1) f answer.needed → Second p answer)
      → ((p : V) (f : TextFault) → Solution p f → answer ≡ text_answer (first + 1) f answer.needed → Second p answer)
      → (v : Fault) → answer ≡ fault_answer first v answer.needed →
      IsStopIn (texts_of decided limit) misfit Clash Tour Solution problem v →
      IsRightRefusalIn (texts_of decided limit) misfit Clash Second first problem answer
  right_refusal Tour Solution two tour solution (faults.Problem f) is h =
      first_refused (faulty (texts_of decided limit) first problem f answer two refl is h)
  right_refusal Tour Solution two tour solution (faults.Tour f) is h =
      second_refused (ap (λ (a : Answer). a.text) (reported_kind (first + 1) f.line f.kind answer two is).0)
      (record { p = h.p; is_problem = h.is_problem; fits = h.fits; fact = inl (tour h.p f h.fact is) })
  right_refusal Tour Solution two tour solution (faults.Solution f) is h =
      second_refused (ap (λ (a : Answer). a.text) (reported_kind (first + 1) f.line f.kind answer two is).0)
      (record { p = h.p; is_problem = h.is_problem; fits = h.fits; fact = inl (solution h.p f h.fact is) })
  right_refusal Tour Solution two tour solution (faults.Initial f) is h =
      second_refused (clash_text (first + 1) f answer two is)
      (record { p = h.p; is_problem = h.is_problem; fits = h.fits; fact = inr (faults.Initial f, h.fact, is) })
  right_refusal Tour Solution two tour solution (faults.InitialRoutes f) is h =
      second_refused (route_clash_text (first + 1) f answer is)
      (record { p = h.p; is_problem = h.is_problem; fits = h.fits; fact = inr (faults.InitialRoutes f, h.fact, is) })
  right_refusal Tour Solution two tour solution (faults.Write f) is h =
      absurd (omega (arith, ap (λ (a : Answer). a.status) is))
  right_refusal Tour Solution two tour solution faults.NoMemory is h =
      absurd (omega (arith, ap (λ (a : Answer). a.status) is))
  right_refusal Tour Solution two tour solution v is h = misfit_refused (v, h, is)

-- like right_refusal, if the problem is the only text
pub problem_refusal : (misfit : ProblemIs → Option Fault) (problem : List ℕ) (answer : Answer) → answer.status ≡ 2 →
    (v : Fault) → answer ≡ fault_answer 1 v answer.needed → IsStop misfit NeverClashes NoFault NoFault problem v →
    IsRightRefusal misfit NeverClashes NoRefusal 1 problem answer
problem_refusal misfit problem answer two =
    right_refusal misfit NeverClashes NoRefusal 1 (omega arith) problem answer NoFault NoFault two
    (λ p f h is. elim h [ ]) (λ p f h is. elim h [ ])
