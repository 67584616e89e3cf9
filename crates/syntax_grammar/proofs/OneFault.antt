-- A text has one fault of syntax at most.
use Rattle.std.proofs.Common.{◌≡◌, ◌∙◌, List, [], ◌∷◌, ◌++◌, ◌⊎◌, inl, inr, append_assoc, refl, sym, ap, subst}
use Rattle.syntax_tokens.specs.declared.terminal.Placed.{Placed}
use Rattle.syntax_tree.specs.declared.class.Class.{Class}
use Rattle.syntax_grammar.specs.Classes.{DerivesProgram}
use Rattle.syntax_grammar.specs.Expecting.{next_of}
use Rattle.syntax_grammar.specs.Viable.{IsViable, IsLostBefore, HasSyntaxFault}

-- of two beginnings of a list, one goes on where the other ends
pub record Further (read here first there : List Placed) : Type 0 where
  pub next : Placed
  pub more : List Placed
  pub is : first ≡ read ++ (next ∷ more)
  pub begins : next_of here ≡ next_of (next ∷ more)

pub compared : (read here first there : List Placed) → read ++ here ≡ first ++ there →
    (read ≡ first) ⊎ (Further read here first there ⊎ Further first there read here)
compared [] here [] there e = inl refl
compared [] here (next ∷ first) there e = inr (inl (record { next = next; more = first; is = refl; begins = ap next_of e }))
compared (next ∷ read) here [] there e = inr (inr (record { next = next; more = read; is = refl; begins = ap next_of (sym e) }))
compared (next ∷ read) here (other ∷ first) there e =
    let same : next ≡ other = cc in
    let rest : read ++ here ≡ first ++ there = cc in
    elim (compared read here first there rest) [
      | inl is ↦ inl (ap (λ (l : List Placed). next ∷ l) is ∙ ap (λ (p : Placed). p ∷ first) same)
      | inr (inl f) ↦ inr (inl (record {
        next =
            f.next;
        more =
            f.more;
        is = ap (λ (l : List Placed). other ∷ l) f.is ∙ ap (λ (p : Placed). p ∷ (read ++ (f.next ∷ f.more))) (sym same);
        begins = f.begins;
      }))
      | inr (inr f) ↦ inr (inr (record {
        next =
            f.next;
        more =
            f.more;
        is = ap (λ (l : List Placed). next ∷ l) f.is ∙ ap (λ (p : Placed). p ∷ (first ++ (f.next ∷ f.more))) same;
        begins = f.begins;
      }))
    ]

-- what can still become a program isn't lost earlier
not_further : {read here first there : List Placed} → IsLostBefore read here → IsViable first → Further read here first there → ⊥
not_further {read} lost v f =
    lost ((f.next ∷ f.more) ++ v.others) v.classes (sym f.begins)
    (subst (λ (l : List Placed). DerivesProgram l v.classes) (ap (λ (l : List Placed). l ++ v.others) f.is ∙ append_assoc read (f.next ∷ f.more) v.others) v.derived)

pub one_place : (list read here first there : List Placed) → HasSyntaxFault list read here → HasSyntaxFault list first there → read ≡ first
one_place list read here first there a b = elim (compared read here first there (sym a.is ∙ b.is)) [
  | inl is ↦ is
  | inr (inl f) ↦ absurd (not_further a.lost b.viable f)
  | inr (inr f) ↦ absurd (not_further b.lost a.viable f)
]

pub no_place : (list read here : List Placed) (classes : List Class) → HasSyntaxFault list read here → DerivesProgram list classes → ⊥
no_place list read here classes a d = a.lost here classes refl (subst (λ (l : List Placed). DerivesProgram l classes) a.is d)
