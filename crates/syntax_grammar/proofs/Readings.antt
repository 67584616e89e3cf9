-- A reading within the limits comes to one end: all that is expected is read, or it stops at one place.
use Rattle.std.proofs.Common.{◌≡◌, ◌⊎◌, inl, inr, ℕ, zero, suc, ◌≤◌, List, [], ◌∷◌, ◌++◌, length, Bool, true, Option, Some, refl, ap, subst, arith}
use Rattle.std.proofs.lemmas.Bool.Decides.{leb_tells}
use Rattle.lang_base.specs.declared.refusal.Kind.{Kind}
use Rattle.lang_base.specs.declared.refusal.Kind.TheVariants as kind
use Rattle.syntax_tokens.specs.declared.terminal.Placed.{Placed}
use Rattle.syntax_tokens.specs.declared.terminal.Terminal.{Terminal}
use Rattle.syntax_grammar.specs.Expecting.{Part, Expected, one, part, choose, next_of, Steps, stay, pick, pass, IsLost}
use Rattle.syntax_grammar.specs.Limits.{Counts, Fits, past, inside, outside, Within, nothing, begins, passes, Stops, no_part, no_terminal, too_many, in_part, after_part, after_terminal}

-- what a reading ends with
record Same (c d : Counts) (a b : List Placed) : Type 0 where
  counts : c ≡ d
  here : a ≡ b

chosen_once : {o : Option (List Expected)} {xs ys : List Expected} → o ≡ Some xs → o ≡ Some ys → xs ≡ ys
chosen_once e f = cc

within_by : {c d : Counts} {xs ys : List Expected} {a b : List Placed} → xs ≡ ys → Within c ys a d b → Within c xs a d b
within_by e w = rw e w

stops_by : {c : Counts} {xs ys : List Expected} {a b : List Placed} {k : Kind} → xs ≡ ys → Stops c ys a k b → Stops c xs a k b
stops_by e s = rw e s

within_from : {c d e : Counts} {xs : List Expected} {a b after : List Placed} → c ≡ d → a ≡ b → Within d xs b e after → Within c xs a e after
within_from e f w = rw (e, f) w

stops_from : {c d : Counts} {xs : List Expected} {a b here : List Placed} {k : Kind} → c ≡ d → a ≡ b → Stops d xs b k here → Stops c xs a k here
stops_from e f s = rw (e, f) s

within_once : {c d e : Counts} {xs : List Expected} {before after other : List Placed} → Within c xs before d after → Within c xs before e other → Same d e after other
within_once nothing nothing = record { counts = refl; here = refl }
within_once (begins {n = n} {c = c} e w v) (begins f x y) =
    let m = within_once w (within_by (chosen_once e f) x) in
    within_once v (within_from (ap (outside n c) m.counts) m.here y)
within_once (passes e f v) (passes g h y) = within_once v y

not_both : {c d : Counts} {xs : List Expected} {before after here : List Placed} {k : Kind} → Within c xs before d after → Stops c xs before k here → ⊥
not_both nothing s = elim s [ ]
not_both (begins e w v) (no_part f) = absurd cc
not_both (begins e w v) (in_part f s) = not_both w (stops_by (chosen_once e f) s)
not_both (begins {n = n} {c = c} e w v) (after_part f x s) =
    let m = within_once w (within_by (chosen_once e f) x) in
    not_both v (stops_from (ap (outside n c) m.counts) m.here s)
not_both (passes e f v) (no_terminal g) = absurd cc
not_both (passes e f v) (too_many g over) = over f
not_both (passes e f v) (after_terminal g h s) = not_both v s

-- where a reading stops, and why
record SameStop (k l : Kind) (a b : List Placed) : Type 0 where
  kind : k ≡ l
  here : a ≡ b

stops_once : {c : Counts} {xs : List Expected} {before here other : List Placed} {k l : Kind} → Stops c xs before k here → Stops c xs before l other → SameStop k l here other
stops_once (no_part e) (no_part f) = record { kind = refl; here = refl }
stops_once (no_part e) (in_part f s) = absurd cc
stops_once (no_part e) (after_part f x s) = absurd cc
stops_once (no_terminal e) (no_terminal f) = record { kind = refl; here = refl }
stops_once (no_terminal e) (too_many g over) = absurd cc
stops_once (no_terminal e) (after_terminal g h s) = absurd cc
stops_once (too_many e over) (no_terminal f) = absurd cc
stops_once (too_many e over) (too_many g more) = record { kind = refl; here = refl }
stops_once (too_many e over) (after_terminal g h s) = absurd (over h)
stops_once (in_part e r) (no_part f) = absurd cc
stops_once (in_part e r) (in_part f s) = stops_once r (stops_by (chosen_once e f) s)
stops_once (in_part e r) (after_part f x s) = absurd (not_both (within_by (chosen_once e f) x) r)
stops_once (after_part e w r) (no_part f) = absurd cc
stops_once (after_part e w r) (in_part f s) = absurd (not_both w (stops_by (chosen_once e f) s))
stops_once (after_part {n = n} {c = c} e w r) (after_part f x s) =
    let m = within_once w (within_by (chosen_once e f) x) in
    stops_once r (stops_from (ap (outside n c) m.counts) m.here s)
stops_once (after_terminal e f r) (no_terminal g) = absurd cc
stops_once (after_terminal e f r) (too_many g over) = absurd (over f)
stops_once (after_terminal e f r) (after_terminal g h s) = stops_once r s

pub once_stopped : {c : Counts} {xs : List Expected} {before here other : List Placed} {k l : Kind} → Stops c xs before k here → Stops c xs before l other → (k ≡ l) × (here ≡ other)
once_stopped r s = let m = stops_once r s in (m.kind, m.here)

pub read_or_stopped : {c d : Counts} {xs : List Expected} {before after here : List Placed} {k : Kind} → Within c xs before d after → Stops c xs before k here → ⊥
read_or_stopped w s = not_both w s

pub no_longer : {c d : Counts} {xs : List Expected} {before after : List Placed} → Within c xs before d after → length after ≤ length before
no_longer nothing = omega arith
no_longer (begins e w v) = let a = no_longer w in let b = no_longer v in omega (arith, a, b)
no_longer (passes e f v) = let b = no_longer v in omega (arith, b)

fits_or_over : (c : Counts) → Fits c ⊎ (Fits c → ⊥)
fits_or_over c = elim (leb_tells c.level 32) [
  | inl l ↦ elim (leb_tells c.joined 32) [
    | inl j ↦ inl (record { level = l.1; joined = j.1 })
    | inr j ↦ inr (λ fits. let h = fits.joined in let k = j.1 in omega (arith, k, h))
  ]
  | inr l ↦ inr (λ fits. let h = fits.level in let k = l.1 in omega (arith, k, h))
]

-- how many steps
abbrev steps_of : {to : List Expected} {left : List Placed} {xs : List Expected} {before : List Placed} → Steps to left xs before → ℕ
steps_of stay = 0
steps_of (pick e s) = suc (steps_of s)
steps_of (pass e s) = suc (steps_of s)

-- what is expected first is read, and what is expected after it is still to be read, in no more steps; or the reading stops
data Along (c : Counts) (xs rest : List Expected) (before : List Placed) (to : List Expected) (left : List Placed) (most : ℕ) : Type 0 where
  read : {d : Counts} {after : List Placed} → Within c xs before d after → (s : Steps to left rest after) → steps_of s ≤ most → Along c xs rest before to left most
  stopped : {k : Kind} {here : List Placed} → Stops c xs before k here → Along c xs rest before to left most

-- where the steps end
abbrev IsEnd : List Expected → List Placed → Type 0
IsEnd to left = IsLost to left ⊎ (to ≡ [])

part_lost : {n : Part} {xs rest : List Expected} {here : List Placed} (c : Counts) → IsEnd (part n ∷ rest) here → Stops c (part n ∷ xs) here kind.Syntax here
part_lost c (inl (IsLost.no_part e)) = no_part e
part_lost c (inr e) = absurd cc

one_lost : {test : Terminal → Bool} {xs rest : List Expected} {here : List Placed} (c : Counts) → IsEnd (one test ∷ rest) here → Stops c (one test ∷ xs) here kind.Syntax here
one_lost c (inl (IsLost.no_terminal e)) = no_terminal e
one_lost c (inr e) = absurd cc

passes_along : {test : Terminal → Bool} {xs rest : List Expected} {next : Placed} {after : List Placed} {c : Counts} {to : List Expected} {left : List Placed} {most : ℕ} → test next.terminal ≡ true → Fits c →
    Along (past next.terminal c) xs rest after to left most → Along c (one test ∷ xs) rest (next ∷ after) to left (suc most)
passes_along e fits (read w s k) = read (passes e fits w) s (omega (arith, k))
passes_along e fits (stopped s) = stopped (after_terminal e fits s)

begins_along : {n : Part} {ys xs rest : List Expected} {before between : List Placed} {c d : Counts} {to : List Expected} {left : List Placed} {most : ℕ} → choose n (next_of before) ≡ Some ys →
    Within (inside n (next_of before) c) ys before d between → Along (outside n c d) xs rest between to left most → Along c (part n ∷ xs) rest before to left (suc most)
begins_along e w (read v s k) = read (begins e w v) s (omega (arith, k))
begins_along e w (stopped s) = stopped (after_part e w s)

along : (most : ℕ) (c : Counts) (xs rest : List Expected) (before : List Placed) {to : List Expected} {left : List Placed} → IsEnd to left → (s : Steps to left (xs ++ rest) before) → steps_of s ≤ most →
    Along c xs rest before to left most
along most c [] rest before end s h = read nothing s h
along most c (one test ∷ xs) rest before end stay h = stopped (one_lost c end)
along zero c (one test ∷ xs) rest before end (pass e s) h = absurd (omega (arith, h))
along (suc most) c (one test ∷ xs) rest (next ∷ after) end (pass e s) h = elim (fits_or_over c) [
  | inl fits ↦ passes_along e fits (along most (past next.terminal c) xs rest after end s (omega (arith, h)))
  | inr more ↦ stopped (too_many e more)
]
along most c (part n ∷ xs) rest before end stay h = stopped (part_lost c end)
along zero c (part n ∷ xs) rest before end (pick e s) h = absurd (omega (arith, h))
along (suc most) c (part n ∷ xs) rest before end (pick {xs = ys} e s) h = elim (along most (inside n (next_of before) c) ys (xs ++ rest) before end s (omega (arith, h))) [
  | read {d = d} {after = between} w more k ↦ begins_along e w (along most (outside n c d) xs rest between end more k)
  | stopped r ↦ stopped (in_part e r)
]

-- all that is expected is read, or its reading stops
pub data Ended (c : Counts) (xs : List Expected) (before : List Placed) : Type 0 where
  whole : {d : Counts} {after : List Placed} → Within c xs before d after → Ended c xs before
  halted : {k : Kind} {here : List Placed} → Stops c xs before k here → Ended c xs before

pub ended : (c : Counts) (xs : List Expected) (before : List Placed) {to : List Expected} {left : List Placed} → IsEnd to left → Steps to left (xs ++ []) before → Ended c xs before
ended c xs before {to = to} {left = left} end s = by (along (steps_of s) c xs [] before end s (omega arith))
  where
    by : Along c xs [] before to left (steps_of s) → Ended c xs before
    by (read w r k) = whole w
    by (stopped r) = halted r

-- a reading goes through what is expected, step by step
pub within_steps : {c d : Counts} {xs : List Expected} {before after left : List Placed} {to : List Expected} (others : List Expected) → Within c xs before d after → Steps to left others after →
    Steps to left (xs ++ others) before
within_steps others nothing s = s
within_steps others (begins {xs = xs} {others = more} e w v) s = pick e (within_steps (more ++ others) w (within_steps others v s))
within_steps others (passes e f v) s = pass e (within_steps others v s)

-- why a reading stops
pub data Cause : Kind → List Expected → List Placed → Type 0 where
  lost : {to : List Expected} {here : List Placed} → IsLost to here → Cause kind.Syntax to here
  over : {test : Terminal → Bool} {others : List Expected} {next : Placed} {after : List Placed} → test next.terminal ≡ true → Cause kind.Nest (one test ∷ others) (next ∷ after)

pub record Stopped (k : Kind) (xs : List Expected) (before here : List Placed) : Type 0 where
  pub to : List Expected
  pub steps : Steps to here xs before
  pub cause : Cause k to here

pub stopped_steps : {c : Counts} {xs : List Expected} {before here : List Placed} {k : Kind} (others : List Expected) → Stops c xs before k here → Stopped k (xs ++ others) before here
stopped_steps others (no_part e) = record { to = _; steps = stay; cause = lost (IsLost.no_part e) }
stopped_steps others (no_terminal e) = record { to = _; steps = stay; cause = lost (IsLost.no_terminal e) }
stopped_steps others (too_many e f) = record { to = _; steps = stay; cause = over e }
stopped_steps others (in_part {others = more} e s) = let r = stopped_steps (more ++ others) s in record { to = r.to; steps = pick e r.steps; cause = r.cause }
stopped_steps others (after_part {others = more} e w s) = let r = stopped_steps others s in record { to = r.to; steps = pick e (within_steps (more ++ others) w r.steps); cause = r.cause }
stopped_steps others (after_terminal e f s) = let r = stopped_steps others s in record { to = r.to; steps = pass e r.steps; cause = r.cause }

pub passed_on : {test : Terminal → Bool} {others : List Expected} {next : Placed} {after : List Placed} {xs : List Expected} {before : List Placed} → test next.terminal ≡ true → Steps (one test ∷ others) (next ∷ after) xs before →
    Steps others after xs before
passed_on e stay = pass e stay
passed_on e (pick f s) = pick f (passed_on e s)
passed_on e (pass f s) = pass f (passed_on e s)

-- where a program is expected, nothing is left after it
abbrev IsLast : Expected → Type 0
IsLast (one test) = ⊥
IsLast (part Part.program) = Unit {0}
IsLast (part Part.more_classes) = Unit {0}
IsLast (part n) = ⊥

abbrev Closing : List Expected → Type 0
Closing [] = ⊥
Closing (x ∷ []) = IsLast x
Closing (x ∷ y ∷ xs) = Closing (y ∷ xs)

closing_after : (xs : List Expected) (y : Expected) (ys : List Expected) → Closing (y ∷ ys) → Closing (xs ++ y ∷ ys)
closing_after [] y ys h = h
closing_after (x ∷ []) y ys h = h
closing_after (x ∷ z ∷ xs) y ys h = closing_after (z ∷ xs) y ys h

-- what closes, or is at its end
abbrev Closes : List Expected → List Placed → Type 0
Closes xs here = Closing xs ⊎ ((xs ≡ []) × (here ≡ []))

last_begins : (n : Part) (here : List Placed) → IsLast (part n) → (xs : List Expected) → choose n (next_of here) ≡ Some xs → Closes (xs ++ []) here
last_begins Part.program here l xs e = inl (subst (λ ys. Closing (ys ++ [])) (chosen_once refl e) tt)
last_begins Part.more_classes [] l xs e = inr (ap (λ ys. ys ++ []) (chosen_once e refl), refl)
last_begins Part.more_classes (next ∷ after) l xs e = inl (subst (λ ys. Closing (ys ++ [])) (chosen_once refl e) tt)
last_begins n here l xs e = absurd l

to_end : {left : List Placed} {xs : List Expected} {before : List Placed} → Closes xs before → Steps [] left xs before → left ≡ []
to_end (inl c) stay = absurd c
to_end (inr e) stay = e.1
to_end (inl c) (pick {n = n} {xs = xs} {others = []} {here = here} e s) = to_end (last_begins n here c xs e) s
to_end (inl c) (pick {xs = xs} {others = y ∷ ys} e s) = to_end (inl (closing_after xs y ys c)) s
to_end (inr e) (pick f s) = absurd (let k = e.0 in cc)
to_end (inl c) (pass {others = []} e s) = absurd c
to_end (inl c) (pass {others = y ∷ ys} e s) = to_end (inl c) s
to_end (inr e) (pass f s) = absurd (let k = e.0 in cc)

pub whole_text : {list after : List Placed} → Steps [] after (part Part.program ∷ []) list → after ≡ []
whole_text s = to_end (inl tt) s
