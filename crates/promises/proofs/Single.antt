-- No second answer fits: what is said tells the answer, so two that say the same are one.
use Rattle.std.specs.Prelude.{Some, None, Result, Ok, Err}
use mathlib.Core.Path.{◌≡◌, refl, sym, ap, ap₂, ◌∙◌}
use mathlib.Core.Bool.{true, cond}
use lib.Dec.{eqb}
use Rattle.answers.specs.declared.Answer.{Answer}
use Rattle.answers.specs.declared.Answer.TheVariants as answer
use Rattle.answers.specs.declared.Refusal.{Refusal}
use Rattle.answers.specs.declared.Refusal.TheVariants.{Gap}
use Rattle.answers.specs.Answers.{Said, said, ability_is_byte}
use Rattle.answers.proofs.OneAnswer.{one_answer, one_count}
use Rattle.page_resolve.specs.Resolving.{Resolution, rate_and_role, said_of}
use Rattle.line_reader.specs.declared.endings.Broken.TheVariants as broken
use Rattle.line_reader.specs.declared.reader.Reader.{Reader}
use Rattle.line_reader.specs.Endings.{said_of_ending, said_of_heard, Ending, Heard}
use Rattle.line_mode.specs.declared.modes.Judgement.{Judgement}
use Rattle.line_mode.specs.declared.modes.Judgement.TheVariants.{Positions, Quiet, Unfit}
use Rattle.line_mode.specs.Gaps.{said_of_gap, said_of_judging}
use Rattle.port_state.specs.declared.Device.{Device}
use Rattle.promises.specs.OneAnswer.{resolved_is_byte, Single, NoSecondAnswer}

-- Two that are the same thing are the same.
both : {A : Type 0} → Single A
both first second due e f = e ∙ sym f

-- What can be found again from what is said of it is told by that.
told_by_law : {A : Type 0} (says : A → Said) (again : Said → A) → ((x : A) → again (says x) ≡ x) → (first second : A) → says first ≡ says second → first ≡ second
told_by_law says again finds first second e = sym (finds first) ∙ ap again e ∙ finds second

abbrev ending_at : Said → Ending
ending_at s = cond (eqb s.kind 0x80) (Ok s.value) (cond (eqb s.kind 1) (Err broken.Gap) (cond (eqb s.kind 2) (Err broken.Cut) (Err broken.Check)))

ending_again : (e : Ending) → ending_at (said_of_ending e) ≡ e
ending_again (Ok word) = refl
ending_again (Err broken.Gap) = refl
ending_again (Err broken.Cut) = refl
ending_again (Err broken.Check) = refl

heard_again : (h : Heard) → cond (eqb (said_of_heard h).kind 0) None (Some (ending_at (said_of_heard h))) ≡ h
heard_again None = refl
heard_again (Some (Ok word)) = refl
heard_again (Some (Err broken.Gap)) = refl
heard_again (Some (Err broken.Cut)) = refl
heard_again (Some (Err broken.Check)) = refl

gap_again : (j : Judgement)
    → cond (eqb (said_of_gap j).kind 0x84) (Positions (said_of_gap j).value) (cond (eqb (said_of_gap j).kind 0x85) Quiet Unfit) ≡ j
gap_again (Positions k) = refl
gap_again Quiet = refl
gap_again Unfit = refl

-- What is said as an answer says it is told by that, if it can be found again in the answer.
told_as_answer : {A : Type 0} (says : A → Said) (answers : A → Answer) (again : Answer → A)
    → ((x : A) → ability_is_byte (answers x) ≡ true) → ((x : A) → said (answers x) ≡ says x) → ((x : A) → again (answers x) ≡ x)
    → (first second : A) → says first ≡ says second → first ≡ second
told_as_answer says answers again bytes same finds first second e =
    sym (finds first) ∙ ap again (one_answer (answers first) (answers second) (bytes first) (bytes second) (same first ∙ e ∙ sym (same second))) ∙ finds second

-- What judging came to, as an answer, and found again in one.
abbrev judging_as : Result Judgement Refusal → Answer
judging_as (Ok (Positions k)) = answer.Number k
judging_as (Ok Quiet) = answer.Quiet
judging_as (Ok Unfit) = answer.Unfit
judging_as (Err refusal) = answer.Refused refusal

abbrev judging_in : Answer → Result Judgement Refusal
judging_in (answer.Number k) = Ok (Positions k)
judging_in answer.Quiet = Ok Quiet
judging_in answer.Unfit = Ok Unfit
judging_in (answer.Refused refusal) = Err refusal
judging_in _ = Err Gap

judgings : (first second : Result Judgement Refusal) → said_of_judging first ≡ said_of_judging second → first ≡ second
judgings = told_as_answer said_of_judging judging_as judging_in byte same again
  where
    byte : (x : Result Judgement Refusal) → ability_is_byte (judging_as x) ≡ true
    byte (Ok (Positions k)) = refl
    byte (Ok Quiet) = refl
    byte (Ok Unfit) = refl
    byte (Err refusal) = refl

    same : (x : Result Judgement Refusal) → said (judging_as x) ≡ said_of_judging x
    same (Ok (Positions k)) = refl
    same (Ok Quiet) = refl
    same (Ok Unfit) = refl
    same (Err refusal) = refl

    again : (x : Result Judgement Refusal) → judging_in (judging_as x) ≡ x
    again (Ok (Positions k)) = refl
    again (Ok Quiet) = refl
    again (Ok Unfit) = refl
    again (Err refusal) = refl

-- What resolving came to, found again in an answer that says it.
abbrev resolution_in : Answer → Resolution
resolution_in answer.Nothing = Err Gap
resolution_in (answer.Refused refusal) = Err refusal
resolution_in (answer.Page word) = Err Gap
resolution_in (answer.Order word) = Err Gap
resolution_in (answer.Settled ability master) = rate_and_role ability master
resolution_in (answer.Value value) = Err Gap
resolution_in (answer.Number n) = Err Gap
resolution_in answer.Quiet = Err Gap
resolution_in answer.Unfit = Err Gap

resolutions : (first second : Resolution) → resolved_is_byte first ≡ true → resolved_is_byte second ≡ true → said_of first ≡ said_of second → first ≡ second
resolutions (Err r) (Err s) a b e = ap resolution_in (one_answer (answer.Refused r) (answer.Refused s) refl refl e)
resolutions (Err r) (Ok s) a b e = ap resolution_in (one_answer (answer.Refused r) (answer.Settled s.ability s.master) refl b e)
resolutions (Ok r) (Err s) a b e = ap resolution_in (one_answer (answer.Settled r.ability r.master) (answer.Refused s) a refl e)
resolutions (Ok r) (Ok s) a b e = ap resolution_in (one_answer (answer.Settled r.ability r.master) (answer.Settled s.ability s.master) a b e)

pub no_second_answer : NoSecondAnswer
no_second_answer =
    record {
      number = both;
      test = both;
      list = both;
      mode = both;
      found = both;
      judgement = both;
      step = both;
      read = both;
      resolved = both;
      device = both;
      event = both;
      plain_record = both;
      reader_numbers_law = both;
      outcome_numbers_law = both;
      lasting = both;
      talk = both;
      next_pages = both;
      link = both;
      outcome = both;
      state = both;
      round = both;
      reader = both;
      refusal = both;
      meant = λ first second due e f. e ∙ sym f;
      answer = λ first second due a b e f. one_answer first second a b (e ∙ sym f);
      reply = λ first second due a b m n.
          ap₂ (λ (says : Answer) (device : Device). record { answer = says; device = device })
          (one_answer first.answer second.answer a b (m.answer ∙ sym n.answer)) (m.device ∙ sym n.device);
      told_resolution = resolutions;
      told_ending = told_by_law said_of_ending ending_at ending_again;
      told_heard = told_by_law said_of_heard (λ s. cond (eqb s.kind 0) None (Some (ending_at s))) heard_again;
      told_judging = judgings;
      told_count = one_count;
      told_gap = told_by_law said_of_gap (λ s. cond (eqb s.kind 0x84) (Positions s.value) (cond (eqb s.kind 0x85) Quiet Unfit)) gap_again;
      told_step = λ first second e f.
          ap₂ (λ (heard : Heard) (reader : Reader). record { heard = heard; reader = reader })
          (told_by_law said_of_heard (λ s. cond (eqb s.kind 0) None (Some (ending_at s))) heard_again first.heard second.heard e) f;
    }
