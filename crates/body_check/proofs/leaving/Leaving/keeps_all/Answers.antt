use Rattle.std.proofs.Common.{◌≡◌, ◌∙◌, suc, ◌≤◌, IsTrue, Option, Some, None, List, [], ◌∷◌, length, drop, sym, ap, subst, drop-cons, arith}
use Rattle.std.proofs.lemmas.Bool.{false≢true}
use Rattle.lang_base.specs.declared.effect.Effect.{Effect}
use Rattle.body_check.specs.declared.leaving.Leaving.{Leaving}
use Rattle.body_check.specs.Leaving.{left_effect}
use Rattle.body_check.specs.Gathering.{all_left, before}
use Rattle.body_check.proofs.leaving.Leaving.keeps_all.Goals as goal

before-length : (o : Option Effect) (ls es : List Effect) (e : Effect) → length ls ≤ length es → length (before o ls) ≤ length (e ∷ es)
before-length None ls es e h = omega arith
before-length (Some x) ls es e h = omega arith

all_left-length : (s : Leaving) (es : List Effect) → length (all_left s es) ≤ length es
all_left-length s [] = omega arith
all_left-length s (e ∷ es) = before-length (left_effect s e) (all_left s es) es e (all_left-length s es)

before-first : (o : Option Effect) (ls es : List Effect) (e : Effect) → length ls ≤ length es → before o ls ≡ e ∷ es → o ≡ Some e
before-first None ls es e h p = absurd (omega (arith, ap length p))
before-first (Some x) ls es e h p = cc

-- a list that is left as it is begins with an effect that is
first_kept : (s : Leaving) (es : List Effect) (e : Effect) → all_left s (e ∷ es) ≡ e ∷ es → left_effect s e ≡ Some e
first_kept s es e p = before-first (left_effect s e) (all_left s es) es e (all_left-length s es) p

pub returns-then-not-keeps : goal.returns-then-not-keeps
returns-then-not-keeps c =
    let es = c.args.effects.now in
    let rest = drop (suc c.loop-e.e-index) es in
    let front : drop c.loop-e.e-index es ≡ c.e-item.result ∷ rest =
    drop-cons es c.loop-e.e-index c.e-item.result (omega arith) ∙ ap (λ e. e ∷ rest) (sym c.e-item.is) in (
      λ h. absurd (false≢true h),
      λ h.
          let left = subst (λ l. all_left c.args.self.now l ≡ l) front (c.loop-e.invariant.1 h) in
          subst IsTrue c.if-not-keeps.true (c.keeps.ensures.1 (first_kept c.args.self.now rest c.e-item.result left)),
    )
