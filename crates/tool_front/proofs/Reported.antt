-- A fault that one pass tells is a fault of the whole, over plain variables.
use Rattle.std.proofs.Common.{◌≡◌, Result, Ok, Err, IfErr, IsErrAnd, subst, sym}
use Rattle.lang_base.specs.declared.refusal.Refusal.{Refusal}
use Rattle.lang_base.specs.declared.refusal.Stop.{Stop}
use Rattle.lang_base.specs.declared.refusal.Stop.TheVariants.{Refused, NoMemory}
use Rattle.lang_base.specs.Refused.{IfRefused}

pub refused-so : (P Q : Refusal → Type 0) (stop : Stop) → ((refusal : Refusal) → P refusal → Q refusal) → IfRefused stop P → IfRefused stop Q
refused-so P Q (Refused refusal) next reported = next refusal reported
refused-so P Q NoMemory next reported = tt

pub reported-so : {T : Type 0} (P Q : Refusal → Type 0) (result : Result T Stop) → ((refusal : Refusal) → P refusal → Q refusal)
    → IfErr result (λ stop. IfRefused stop P) → IfErr result (λ stop. IfRefused stop Q)
reported-so P Q (Ok x) next reported = tt
reported-so P Q (Err stop) next reported = refused-so P Q stop next reported

-- the same where what stopped is handed on
pub handed-so : {T : Type 0} (P Q : Refusal → Type 0) (result : Result T Stop) (stop : Stop) → IsErrAnd result (λ given. given ≡ stop)
    → ((refusal : Refusal) → P refusal → Q refusal) → IfRefused stop P → IfErr result (λ given. IfRefused given Q)
handed-so P Q (Ok x) stop is next reported = absurd is
handed-so P Q (Err given) stop is next reported = refused-so P Q given next (subst (λ (s : Stop). IfRefused s P) (sym is) reported)
