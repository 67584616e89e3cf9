-- Ends put into a scope, and how many of its branches run.
use Rattle.std.proofs.Common.{◌≡◌, ℕ, zero, suc, ◌+◌, ◌<◌, ◌≤◌, List, [], ◌∷◌, length, get_or, refl, sym, ap, ◌∙◌, Option, Some, None, true, false, is_some, arith, ◌++◌, ◌≢◌, ◌||◌, ◌&&◌, not, inl, inr}
use Rattle.std.proofs.lemmas.Bool.{le-ltb}
use Rattle.std.proofs.lemmas.Bool.Decides.{eqb_tells}
use Rattle.std.proofs.Math.Dec.{eqb}
use Rattle.std.proofs.Math.ListN.{set}
use Rattle.std.specs.List.{list_all}
use Rattle.exec_tasks.specs.Scope.{put_end, running_in, can_go_on, all_begun, all_ended}
use Rattle.exec_tasks.specs.declared.end.TaskEnd.{TaskEnd}

pub put_running : (ends : List (Option TaskEnd)) (b : ℕ) (how : TaskEnd) (x : Option TaskEnd) → b < length ends → x ≡ get_or ends b x → is_some x ≡ false
    → set ends b (Some how) ≡ put_end ends b how
put_running [] b how x lt at none = absurd (omega arith)
put_running (None ∷ ends) zero how x lt at none = refl
put_running (Some e ∷ ends) zero how x lt at none = cc
put_running (None ∷ ends) (suc b) how x lt at none = ap (λ es. None ∷ es) (put_running ends b how x (omega arith) at none)
put_running (Some e ∷ ends) (suc b) how x lt at none = ap (λ es. Some e ∷ es) (put_running ends b how x (omega arith) at none)

pub put_past : (ends : List (Option TaskEnd)) (b : ℕ) (how : TaskEnd) → length ends ≤ b → ends ≡ put_end ends b how
put_past [] b how le = refl
put_past (x ∷ ends) zero how le = absurd (omega arith)
put_past (None ∷ ends) (suc b) how le = ap (λ es. None ∷ es) (put_past ends b how (omega arith))
put_past (Some e ∷ ends) (suc b) how le = ap (λ es. Some e ∷ es) (put_past ends b how (omega arith))

pub put_ended : (ends : List (Option TaskEnd)) (b : ℕ) (how : TaskEnd) (x : Option TaskEnd) → b < length ends → x ≡ get_or ends b x → is_some x ≡ true
    → ends ≡ put_end ends b how
put_ended [] b how x lt at some = absurd (omega arith)
put_ended (None ∷ ends) zero how x lt at some = cc
put_ended (Some e ∷ ends) zero how x lt at some = refl
put_ended (None ∷ ends) (suc b) how x lt at some = ap (λ es. None ∷ es) (put_ended ends b how x (omega arith) at some)
put_ended (Some e ∷ ends) (suc b) how x lt at some = ap (λ es. Some e ∷ es) (put_ended ends b how x (omega arith) at some)

-- one branch fewer runs
pub running_less : (ends : List (Option TaskEnd)) (b : ℕ) (how : TaskEnd) (x : Option TaskEnd) → b < length ends → x ≡ get_or ends b x → is_some x ≡ false
    → running_in ends ≡ running_in (set ends b (Some how)) + 1
running_less [] b how x lt at none = absurd (omega arith)
running_less (None ∷ ends) zero how x lt at none = refl
running_less (Some e ∷ ends) zero how x lt at none = cc
running_less (None ∷ ends) (suc b) how x lt at none = ap (λ n. n + 1) (running_less ends b how x (omega arith) at none)
running_less (Some e ∷ ends) (suc b) how x lt at none = running_less ends b how x (omega arith) at none

pub running_more : (ends : List (Option TaskEnd)) → running_in (ends ++ None ∷ []) ≡ running_in ends + 1
running_more [] = refl
running_more (None ∷ ends) = ap (λ n. n + 1) (running_more ends)
running_more (Some e ∷ ends) = running_more ends

pub all_are_ended : (ends : List (Option TaskEnd)) → running_in ends ≡ 0 → list_all is_some ends ≡ true
all_are_ended [] none = refl
all_are_ended (None ∷ ends) none = absurd (omega arith)
all_are_ended (Some e ∷ ends) none = all_are_ended ends none

pub not_all_ended : (ends : List (Option TaskEnd)) → running_in ends ≢ 0 → list_all is_some ends ≡ false
not_all_ended [] some = absurd (some refl)
not_all_ended (None ∷ ends) some = refl
not_all_ended (Some e ∷ ends) some = not_all_ended ends some

pub running_within : (ends : List (Option TaskEnd)) → running_in ends ≤ length ends
running_within [] = omega arith
running_within (None ∷ ends) = omega (arith, running_within ends)
running_within (Some e ∷ ends) = omega (arith, running_within ends)

none_left : (left : ℕ) (ends : List (Option TaskEnd)) → left ≡ running_in ends → eqb left 0 ≡ list_all is_some ends
none_left left ends is =
    elim (eqb_tells left 0) [
      | inl zero_left ↦ zero_left.0 ∙ sym (all_are_ended ends (sym is ∙ zero_left.1))
      | inr some_left ↦ some_left.0 ∙ sym (not_all_ended ends (λ none. some_left.1 (is ∙ none)))
    ]

-- after all branches that have begun, a scope can go on where none of them runs
pub goes_on : (count left : ℕ) (ends : List (Option TaskEnd)) → left ≡ running_in ends → count ≤ length ends
    → eqb left 0 ≡ can_go_on (record { count = count; ends = ends })
goes_on count left ends is begun = none_left left ends is ∙ sym (ap (λ b. b || list_all is_some ends) (le-ltb (length ends) count begun))

-- and can be joined where none of them runs
pub joins : (count left : ℕ) (ends : List (Option TaskEnd)) → left ≡ running_in ends → count ≤ length ends
    → eqb left 0 ≡ (all_begun (record { count = count; ends = ends }) && all_ended (record { count = count; ends = ends }))
joins count left ends is begun = none_left left ends is ∙ sym (ap (λ b. not b && list_all is_some ends) (le-ltb (length ends) count begun))
