-- What is passed on: what the code says of a part, as what it says of the whole.
use Rattle.std.proofs.Common.{◌≡◌, Option, None, Some, Result, Ok, Err, IfErr, OnOk, sym, subst}
use Rattle.std.specs.Result.{IsErrAnd}
use Rattle.lang_base.specs.declared.refusal.Refusal.{Refusal}
use Rattle.lang_base.specs.declared.refusal.Stop.{Stop}
use Rattle.lang_base.specs.declared.refusal.Stop.TheVariants as stop
use Rattle.lang_base.specs.Refused.{IfRefused}
use Rattle.body_exprs.specs.Answer.{Says}

pub refused_map : (P Q : Refusal → Type 0) (s : Stop) → ((q : Refusal) → P q → Q q) → IfRefused s P → IfRefused s Q
refused_map P Q (stop.Refused q) next h = next q h
refused_map P Q stop.NoMemory next h = tt

pub says_all : {T A : Type 0} (P Q : A → Type 0) (made : T → A) (refuse : Refusal → A) (r : Result T Stop) →
    ((a : A) → P a → Q a) → Says r made refuse P → Says r made refuse Q
says_all P Q made refuse (Ok x) next h = next (made x) h
says_all P Q made refuse (Err s) next h = refused_map (λ q. P (refuse q)) (λ q. Q (refuse q)) s (λ q. next (refuse q)) h

-- where the whole says it by another answer
pub says_to : {T A B : Type 0} (P : A → Type 0) (Q : B → Type 0) (to : A → B) (made : T → A) (refuse : Refusal → A) (r : Result T Stop) →
    ((a : A) → P a → Q (to a)) → Says r made refuse P → Says r (λ x. to (made x)) (λ q. to (refuse q)) Q
says_to P Q to made refuse (Ok x) next h = next (made x) h
says_to P Q to made refuse (Err s) next h = refused_map (λ q. P (refuse q)) (λ q. Q (to (refuse q))) s (λ q. next (refuse q)) h

-- at the exit of a `?`
pub passed_on : {T B : Type 0} (P : Refusal → Type 0) (Q : B → Type 0) (made : T → B) (refuse : Refusal → B) (r : Result T Stop) (s : Stop) →
    IsErrAnd r (λ x. x ≡ s) → ((q : Refusal) → P q → Q (refuse q)) → IfRefused s P → Says r made refuse Q
passed_on P Q made refuse (Ok x) s is next h = absurd is
passed_on P Q made refuse (Err x) s is next h =
    refused_map P (λ q. Q (refuse q)) x next (subst (λ (z : Stop). IfRefused z P) (sym is) h)

-- a refusal of its own
pub refuses : {T A : Type 0} (Q : A → Type 0) (made : T → A) (refuse : Refusal → A) (s : Stop) (q : Refusal) →
    s ≡ stop.Refused q → Q (refuse q) → Says (Err s) made refuse Q
refuses Q made refuse s q is h = subst (λ (z : Stop). IfRefused z (λ x. Q (refuse x))) (sym is) h

-- which fault is reported, where two clauses say it
pub reported_says : {T : Type 0} (reported : Option Refusal) (r : Result T Stop) →
    OnOk r (reported ≡ None) → IfErr r (λ s. IfRefused s (λ q. reported ≡ Some q)) → Says r (λ x. None) Some (λ t. reported ≡ t)
reported_says reported (Ok x) unreported h = unreported
reported_says reported (Err s) unreported h = h
