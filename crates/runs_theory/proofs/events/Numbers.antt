-- The numbers of tasks in a schedule.
use Rattle.std.proofs.Common.{◌≡◌, ℕ, suc, ◌+◌, ◌<◌, ◌≤◌, [], ◌∷◌, refl, sym, ap, ◌∙◌, arith, ◌++◌, subst}
use Rattle.runs_theory.specs.Actions.{Action, Begin, Program, Task}
use Rattle.runs_theory.specs.Objects.{Path}
use Rattle.runs_theory.specs.Runs.{Begun, Event, Faithful, Run, Upto, branch, count, later, now, root}
use Rattle.runs_theory.specs.Schedules.{Numbered, begins, branch_is, one_begin, root_is}
use Rattle.runs_theory.proofs.events.Places.{pair_eq}
use Rattle.runs_theory.proofs.events.Mine.{same_of}
use Rattle.runs_theory.proofs.runs.Faithful.{follows_at}
use Rattle.runs_theory.proofs.events.Upto.{upto_trans, upto_tail, which, Which, same_one, before, after}

pub begins_step : (e : Event) (R : Run) → begins (e ∷ R) ≡ one_begin e.act + begins R
unfolding begins
begins_step e R = refl

pub begins_nil : begins [] ≡ 0
unfolding begins
begins_nil = refl

begins_upto : {A B : Run} → Upto A B → begins A ≤ begins B
begins_upto {A} now = omega arith
begins_upto {A} (later {y = e} {ys = R} h) = let a = begins_upto h in let b = begins_step e R in omega arith

begins_less : {G B : Run} {g : Event} (b : ℕ) → Upto (g ∷ G) B → g.act ≡ Begin b → begins G < begins B
begins_less {G} {B} {g} b h e = let a = begins_upto h in let s = begins_step g G in let o = ap one_begin e in omega arith

pub same_begin : (b c : ℕ) → ◌≡◌ {A = Action} (Begin b) (Begin c) → b ≡ c
same_begin b c e = cc

-- one task to a number
pub number_one : {R : Run} {k : ℕ} {p q : Path} → Numbered R k p → Numbered R k q → p ≡ q
number_one (root_is a b) (root_is c d) = a ∙ sym c
number_one (root_is a b) (branch_is q u G g c d e f n k) = absurd (omega arith)
number_one (branch_is q u G g c d e f n k) (root_is a b) = absurd (omega arith)
number_one {p = p} {q = p'} (branch_is q u G g c d e f n k) (branch_is q' u' G' g' c' d' e' f' n' k') = go (which d d')
  where
    go : Which g G g' G' → p ≡ p'
    go (same_one x y) =
        let qq : q ≡ q' = sym e ∙ ap (λ z. z.path) x ∙ e' in
        let b : u.1 ≡ u'.1 = same_begin u.1 u'.1 (sym f ∙ ap (λ z. z.act) x ∙ f') in
        let m : count G q ≡ count G' q' = ap (λ z. count z q) y ∙ ap (λ z. count G' z) qq in
        let i : u.0 ≡ u'.0 = omega arith in
        let uu : u ≡ u' = pair_eq u u' i b in
        c ∙ ap (λ z. z ∷ q) uu ∙ ap (λ z. u' ∷ z) qq ∙ sym c'
    go (before h) = let l = begins_less u.1 h f in absurd (omega arith)
    go (after h) = let l = begins_less u'.1 h f' in absurd (omega arith)

-- a task that has begun has a number
pub number_of_begun : {P : Program} {t : Task} {R : Run} {p : Path} → Begun P R p t → (k : ℕ) × Numbered R k p
number_of_begun (root a b) = (0, root_is a refl)
number_of_begun (branch q u F f ts B g a b c d e s h i j m) = (suc (begins B), branch_is q u B g a h i j m refl)

cons_path : (u v : ℕ × ℕ) (p q : Path) → u ∷ p ≡ v ∷ q → (u ≡ v) × (p ≡ q)
cons_path u v p q e = (cc, cc)

-- one number to a task
pub number_same : {R : Run} {k j : ℕ} {p : Path} → Numbered R k p → Numbered R j p → k ≡ j
number_same (root_is a b) (root_is c d) = b ∙ sym d
number_same (root_is a b) (branch_is q u G g c d e f n k) = absurd (let z : [] ≡ u ∷ q = sym a ∙ c in cc)
number_same (branch_is q u G g c d e f n k) (root_is a b) = absurd (let z : [] ≡ u ∷ q = sym a ∙ c in cc)
number_same (branch_is q u G g c d e f n k) (branch_is q' u' G' g' c' d' e' f' n' k') =
    let z = cons_path u u' q q' (sym c ∙ c') in
    let m : count G' q ≡ suc (u.0 + u.1) = ap (λ r. count G' r) z.1 ∙ n' ∙ ap (λ (w : ℕ × ℕ). suc (w.0 + w.1)) (sym z.0) in
    let o = same_of q d d' e (e' ∙ sym z.1) (n ∙ sym m) in
    k ∙ ap (λ r. suc (begins r)) o.1 ∙ sym k'

numbered_upto : {A B : Run} {k : ℕ} {p : Path} → Upto A B → Numbered A k p → Numbered B k p
numbered_upto h (root_is a b) = root_is a b
numbered_upto h (branch_is q u G g c d e f n k) = branch_is q u G g c (upto_trans d h) e f n k

numbered_low : {A : Run} {k : ℕ} {p : Path} → Numbered A k p → k ≤ begins A
numbered_low (root_is a b) = omega arith
numbered_low (branch_is q u G g c d e f n k) = let l = begins_less u.1 d f in omega arith

-- a task below another has the greater number
pub number_below : (P : Program) {R : Run} {k : ℕ} (xs q : Path) (u : ℕ × ℕ) (j : ℕ) → Faithful P R → Numbered R j (xs ++ u ∷ q) → Numbered R k q → k < j
number_below P [] q u j l (root_is a b) n = absurd (let z : u ∷ q ≡ [] = a in cc)
number_below P {R} {k} [] q u j l (branch_is q' u' G g c d e f m o) n =
    let z = cons_path u u' q q' c in
    let a = number_of_begun (follows_at P d l).begun in
    let b : Numbered R a.0 q = numbered_upto (upto_tail d) (subst (λ p. Numbered G a.0 p) (e ∙ sym z.1) a.1) in
    let s = number_same n b in
    let w = numbered_low a.1 in
    omega arith
number_below P (x ∷ xs) q u j l (root_is a b) n = absurd (let z : x ∷ (xs ++ u ∷ q) ≡ [] = a in cc)
number_below P {R} {k} (x ∷ xs) q u j l (branch_is q' u' G g c d e f m o) n =
    let z = cons_path x u' (xs ++ u ∷ q) q' c in
    let a = number_of_begun (follows_at P d l).begun in
    let b : Numbered R a.0 (xs ++ u ∷ q) = numbered_upto (upto_tail d) (subst (λ p. Numbered G a.0 p) (e ∙ sym z.1) a.1) in
    let r = number_below P xs q u a.0 l b n in
    let w = numbered_low a.1 in
    omega arith
