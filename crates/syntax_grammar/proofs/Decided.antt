-- Each text derives a program or has its fault of syntax.
use Rattle.std.proofs.Common.{suc, List, [], ◌∷◌, ◌++◌, ◌⊎◌, inl, inr, length, refl, sym, subst, arith}
use Rattle.syntax_tokens.specs.declared.terminal.Placed.{Placed}
use Rattle.syntax_tree.specs.declared.class.Class.{Class}
use Rattle.syntax_grammar.specs.Classes.{DerivesProgram}
use Rattle.syntax_grammar.specs.Expecting.{Expected, part, Steps, IsLost}
use Rattle.syntax_grammar.specs.Expecting.{Part as p}
use Rattle.syntax_grammar.specs.Viable.{HasSyntaxFault, IsFaulty}
use Rattle.syntax_grammar.proofs.expected.Expected.{alike}
use Rattle.syntax_grammar.proofs.expected.ExpectedClasses.{lost_is_no_program}
use Rattle.syntax_grammar.proofs.Settled.{settled}
use Rattle.syntax_grammar.proofs.Viability.{read_program, viable}

pub fault_at : (read here : List Placed) {to : List Expected} → Steps to here (part p.program ∷ []) (read ++ here) → IsLost to here → HasSyntaxFault (read ++ here) read here
fault_at read here s lost = record {
  is = refl;
  viable = viable read here s;
  lost = λ other classes next d. lost_is_no_program read here other s lost next d;
}

pub decided : (list : List Placed) → ((classes : List Class) × DerivesProgram list classes) ⊎ IsFaulty list
decided list =
    let s = settled (suc (length list)) (part p.program ∷ []) list (omega arith) in
    elim s.ends [
      | inl lost ↦
          let a = alike s.steps in
          let steps : Steps s.to s.left (part p.program ∷ []) (a.read ++ s.left) = subst (λ (l : List Placed). Steps s.to s.left (part p.program ∷ []) l) a.is s.steps in
          inr (record { read = a.read; here = s.left; fault = subst (λ (l : List Placed). HasSyntaxFault l a.read s.left) (sym a.is) (fault_at a.read s.left steps lost) })
      | inr done ↦
          let rest : Steps s.to [] (part p.program ∷ []) list = subst (λ (l : List Placed). Steps s.to l (part p.program ∷ []) list) done.1 s.steps in
          inl (read_program (subst (λ (x : List Expected). Steps x [] (part p.program ∷ []) list) done.0 rest))
    ]
