-- Member after member: the output, and the numbers of the bodies.
use Rattle.std.proofs.Common.{◌≡◌, ◌∙◌, ℕ, ◌+◌, List, [], ◌∷◌, ◌++◌, map, length, drop, sym, ap, ap₂, append_assoc, length-append}
use Rattle.std.proofs.lemmas.List.{append-nil, length-map, map-append}
use Rattle.lang_typed.specs.declared.program.Member.{Member}
use Rattle.lang_typed.specs.Plain.{plain_member, PlainMember, PlainProgram}
use Rattle.code_instrs.specs.declared.code.Body.{Body}
use Rattle.code_instrs.specs.Plain.{plain_body, PlainBody, Site, ClassCode, PlainCode}
use Rattle.code_scheme.specs.Pieces.{Next}
use Rattle.code_scheme.specs.Whole.{Output, then_output, member_output, past_output, members_output, member_numbers, first, number_in, compiled}
use Rattle.code_scheme.specs.Scheme.{class_code}
use Rattle.code_instrs.specs.declared.code.MethodCode.{MethodCode}
use Rattle.code_compile.specs.Classes.{number_from, numbers_of}
use Rattle.code_compile.specs.Emitted.{Emitted}
use Rattle.code_compile.specs.Bodies.{output_of, next_member, Finished, IsNew}
use Rattle.code_compile.proofs.Emits.{same_next}
use Rattle.code_compile.proofs.Generating.{same_output, nothing_left}

abbrev owner_in : MethodCode → ℕ
owner_in m = m.owner

abbrev class_of : Member → ℕ
class_of m = m.class.number

-- what is emitted, and what the rest leads to, are the whole
pub record SoFar (s : Emitted) (bodies : List Body) (made : List MethodCode) (at : ℕ) (all : List Member) : Type 0 where
  pub lines : s.piece.lines ≡ []
  pub output : then_output (output_of s bodies) (members_output (next_member s bodies) (map plain_member (drop at all))) ≡ members_output first (map plain_member all)
  pub owners : map owner_in made ++ map class_of (drop at all) ≡ map class_of all
  pub numbered : numbers_of made ++ member_numbers (next_member s bodies) (map plain_member (drop at all)) ≡ member_numbers first (map plain_member all)

then_assoc : (a b c : Output) → then_output (then_output a b) c ≡ then_output a (then_output b c)
then_assoc a b c = same_output _ _ (append_assoc a.bodies b.bodies c.bodies) (append_assoc a.sites b.sites c.sites) (append_assoc a.texts b.texts c.texts)

-- what is next after a member
next_after_member : (s t : Emitted) (bodies made : List Body) (o : Output) → output_of t made ≡ then_output (output_of s bodies) o →
    next_member t made ≡ past_output (next_member s bodies) o
next_after_member s t bodies made o e =
    same_next _ _ (ap (λ (z : Output). length z.sites) e ∙ length-append s.piece.sites o.sites) (ap (λ (z : Output). length z.texts) e ∙ length-append s.piece.texts o.texts)
    (sym (length-map made plain_body) ∙ ap (λ (z : Output). length z.bodies) e ∙ length-append (map plain_body bodies) o.bodies
    ∙ ap (λ n. n + length o.bodies) (length-map bodies plain_body))

pub none_yet : (s : Emitted) (bodies : List Body) (made : List MethodCode) (all : List Member) → made ≡ [] → IsNew s bodies → SoFar s bodies made 0 all
none_yet s bodies made all none new =
    let start : next_member s bodies ≡ first =
    same_next _ _ (ap (λ (z : Output). length z.sites) new.output) (ap (λ (z : Output). length z.texts) new.output)
    (sym (length-map bodies plain_body) ∙ ap (λ (z : Output). length z.bodies) new.output) in
    record {
      lines = new.lines;
      output = ap₂ (λ o k. then_output o (members_output k (map plain_member all))) new.output start;
      owners = ap (λ ms. map owner_in ms ++ map class_of all) none;
      numbered = ap₂ (λ ms k. numbers_of ms ++ member_numbers k (map plain_member all)) none start;
    }

pub one_more : (s t : Emitted) (bodies made : List Body) (before more : List MethodCode) (n at : ℕ) (all : List Member) (m : Member) → drop at all ≡ m ∷ drop (at + 1) all →
    n ≡ length bodies → more ≡ before ++ record { owner = m.class.number; body = n } ∷ [] → t.piece.lines ≡ [] → Finished s bodies (λ k. member_output k (plain_member m)) t made →
    SoFar s bodies before at all → SoFar t made more (at + 1) all
one_more s t bodies made before more n at all m is counted pushed lines done w =
    let k : Next = next_member s bodies in
    let o : Output = member_output k (plain_member m) in
    let later : List PlainMember = map plain_member (drop (at + 1) all) in
    let next : next_member t made ≡ past_output k o = next_after_member s t bodies made o done in
    record {
      lines = lines;
      output =
          ap₂ (λ z j. then_output z (members_output j later)) done next ∙ then_assoc (output_of s bodies) o (members_output (past_output k o) later)
          ∙ ap (λ xs. then_output (output_of s bodies) (members_output k (map plain_member xs))) (sym is) ∙ w.output;
      owners =
          ap (λ ms. map owner_in ms ++ map class_of (drop (at + 1) all)) pushed
          ∙ ap (λ os. os ++ map class_of (drop (at + 1) all)) (map-append owner_in before (record { owner = m.class.number; body = n } ∷ []))
          ∙ append_assoc (map owner_in before) (m.class.number ∷ []) (map class_of (drop (at + 1) all)) ∙ ap (λ xs. map owner_in before ++ map class_of xs) (sym is) ∙ w.owners;
      numbered =
          ap₂ (λ z j. z ++ member_numbers j later)
          (ap numbers_of pushed ∙ map-append (λ (m : MethodCode). m.body) before (record { owner = m.class.number; body = n } ∷ []) ∙ ap (λ z. numbers_of before ++ z ∷ []) counted) next
          ∙ append_assoc (numbers_of before) (length bodies ∷ []) (member_numbers (past_output k o) later)
          ∙ ap (λ xs. numbers_of before ++ member_numbers k (map plain_member xs)) (sym is) ∙ w.numbered;
    }

pub all_output : (s : Emitted) (bodies : List Body) (made : List MethodCode) (at : ℕ) (all : List Member) → drop at all ≡ [] → SoFar s bodies made at all →
    output_of s bodies ≡ members_output first (map plain_member all)
all_output s bodies made at all is w =
    sym (nothing_left (output_of s bodies)) ∙ ap (λ xs. then_output (output_of s bodies) (members_output (next_member s bodies) (map plain_member xs))) (sym is) ∙ w.output

pub all_owners : (s : Emitted) (bodies : List Body) (made : List MethodCode) (at : ℕ) (all : List Member) → drop at all ≡ [] → SoFar s bodies made at all →
    map owner_in made ≡ map class_of all
all_owners s bodies made at all is w = sym (append-nil (map owner_in made)) ∙ ap (λ xs. map owner_in made ++ map class_of xs) (sym is) ∙ w.owners

pub all_numbers : (s : Emitted) (bodies : List Body) (made : List MethodCode) (at : ℕ) (all : List Member) → drop at all ≡ [] → SoFar s bodies made at all →
    numbers_of made ≡ member_numbers first (map plain_member all)
all_numbers s bodies made at all is w =
    sym (append-nil (numbers_of made)) ∙ ap (λ xs. numbers_of made ++ member_numbers (next_member s bodies) (map plain_member xs)) (sym is) ∙ w.numbered

-- the code that is made of it
abbrev code_from : List ClassCode → List PlainBody → List Site → List (List ℕ) → ℕ → ℕ → PlainCode
code_from classes bodies sites texts main_class main_body = record {
  classes = classes;
  bodies = bodies;
  sites = sites;
  texts = texts;
  main_class = main_class;
  main_body = main_body;
}

same_code : {c d : List ClassCode} {o p : Output} {m n : ℕ} (main : ℕ) → c ≡ d → o ≡ p → m ≡ n →
    code_from c o.bodies o.sites o.texts main m ≡ code_from d p.bodies p.sites p.texts main n
same_code {c} {d} {o} {p} {m} {n} main classes output number =
    ap (λ z. code_from z o.bodies o.sites o.texts main m) classes ∙ ap (λ (z : Output). code_from d z.bodies z.sites z.texts main m) output
    ∙ ap (λ z. code_from d p.bodies p.sites p.texts main z) number

pub code_is : (P : PlainProgram) (classes : List ClassCode) (o : Output) (numbers : List ℕ) (main : ℕ) → numbers ≡ member_numbers first P.members →
    classes ≡ map (class_code P (number_from numbers)) P.classes → o ≡ members_output first P.members → main ≡ number_from numbers P.main_member →
    code_from classes o.bodies o.sites o.texts P.main_class main ≡ compiled P
unfolding compiled number_in
code_is P classes o numbers main numbered is output at_main =
    same_code P.main_class (is ∙ ap (λ z. map (class_code P (number_from z)) P.classes) numbered) output (at_main ∙ ap (λ z. number_from z P.main_member) numbered)
