-- What calls and creations do, with what is kept of summaries.
use Rattle.std.proofs.Common.{◌≡◌, ◌∙◌, ℕ, zero, suc, Bool, true, false, ◌==◌, if◌then◌else◌, List, [], ◌∷◌, ◌++◌, length, map, Option, Some, None, Result, Ok, Err, IfOk, OnOk, refl, ap, slice_get}
use Rattle.lang_base.specs.declared.region.Rpl.{Rpl}
use Rattle.lang_base.specs.Regions.{substituted}
use Rattle.lang_base.specs.Types.{PlainType, int, boolean, void, null, class, array}
use Rattle.lang_typed.specs.Plain.{PlainProgram, PlainMember, PlainParent}
use Rattle.lang_typed.specs.Scope.{member_at, parent_of, constructor_of}
use Rattle.lang_typed.specs.Effects.{Own, summary_with}
use Rattle.body_infer.specs.declared.kept.Kept.{Kept}
use Rattle.body_infer.specs.Kept.{Keeping, summary_kept, members_kept, program_kept}
use Rattle.body_infer.specs.Doing.{seen_by, seen_within, seen_as, member_in, of_callee, of_constructor, constructed}
use Rattle.body_infer.specs.Walked.{class_parts, summary_of, summary_in}

pub on_ok : {X E : Type 0} {P Q : Type 0} (r : Result X E) → (P → Q) → OnOk r P → OnOk r Q
on_ok (Ok x) f h = f h
on_ok (Err e) f h = tt

-- what three clauses say of an answer
pub if_all : {X E K : Type 0} (A B C : X → Type 0) (r : Result X E) → (K → (x : X) → A x → B x → C x) → OnOk r K → IfOk r A → IfOk r B → IfOk r C
if_all A B C (Ok x) f k a b = f k x a b
if_all A B C (Err e) f k a b = tt

-- a member with what is left of its summary
abbrev pub kept_at : Option (List Kept) → Option PlainMember → Option PlainMember
kept_at (Some ks) (Some m) = Some (record m { summary = summary_kept ks m.summary })
kept_at (Some ks) None = None
kept_at None m = None

pub members_at : (S : Keeping) (ms : List PlainMember) (n : ℕ) → slice_get (members_kept S ms) n ≡ kept_at (slice_get S n) (slice_get ms n)
members_at [] [] n = refl
members_at [] (m ∷ ms) n = refl
members_at (ks ∷ S) [] zero = refl
members_at (ks ∷ S) [] (suc n) = none_at (slice_get S n)
  where
    none_at : (o : Option (List Kept)) → None ≡ kept_at o None
    none_at (Some ks) = refl
    none_at None = refl
members_at (ks ∷ S) (m ∷ ms) zero = refl
members_at (ks ∷ S) (m ∷ ms) (suc n) = members_at S ms n

no_member : (o : Option (List Kept)) → kept_at o None ≡ None
no_member (Some ks) = refl
no_member None = refl

seen_step : (b : Bool) (o : Option PlainParent) (args : List Rpl) (f g : ℕ → List Rpl → List Rpl) → ((q : ℕ) (owned : List Rpl) → f q owned ≡ g q owned) →
    (if b then args else seen_by f args o) ≡ (if b then args else seen_by g args o)
seen_step true o args f g h = refl
seen_step false None args f g h = refl
seen_step false (Some p) args f g h = h p.class (map (substituted args) p.args)

-- what is seen of a class doesn't depend on summaries
seen_alike : (S : Keeping) (P : PlainProgram) (n c d : ℕ) (args : List Rpl) → seen_within n (program_kept S P) c args d ≡ seen_within n P c args d
seen_alike S P zero c d args = refl
seen_alike S P (suc n) c d args =
    seen_step (c == d) (parent_of P c) args (λ q owned. seen_within n (program_kept S P) q owned d) (λ q owned. seen_within n P q owned d) (λ q owned. seen_alike S P n q d owned)

-- a callee and a constructor, by the parts of the type
abbrev callee_by : PlainProgram → Option (ℕ × List Rpl) → Option PlainMember → List Rpl → List Own
callee_by P (Some ca) (Some m) regions = summary_with (seen_as P ca.0 ca.1 m.class ++ regions) m.summary
callee_by P (Some ca) None regions = []
callee_by P None m regions = []

callee_is : (P : PlainProgram) (t : PlainType) (m : Option PlainMember) (regions : List Rpl) → of_callee P t m regions ≡ callee_by P (class_parts t) m regions
callee_is P int m regions = refl
callee_is P boolean m regions = refl
callee_is P void m regions = refl
callee_is P null m regions = refl
callee_is P (class c args) (Some m) regions = refl
callee_is P (class c args) None regions = refl
callee_is P (array t a named) m regions = refl

no_callee : (P : PlainProgram) (parts : Option (ℕ × List Rpl)) (regions : List Rpl) → callee_by P parts None regions ≡ []
no_callee P (Some ca) regions = refl
no_callee P None regions = refl

pub callee_none : (S : Keeping) (P : PlainProgram) (t : PlainType) (n : ℕ) (row : Option ℕ) (regions : List Rpl) → row ≡ Some n → member_at P n ≡ None →
    of_callee (program_kept S P) t (member_in (program_kept S P) row) regions ≡ []
callee_none S P t n row regions e h =
    callee_is (program_kept S P) t (member_in (program_kept S P) row) regions
    ∙ ap (λ r. callee_by (program_kept S P) (class_parts t) (member_in (program_kept S P) r) regions) e
    ∙ ap (λ m. callee_by (program_kept S P) (class_parts t) m regions) (members_at S P.members n ∙ ap (kept_at (slice_get S n)) h ∙ no_member (slice_get S n))
    ∙ no_callee (program_kept S P) (class_parts t) regions

-- where there is no callee to know
pub callee_unknown : (P : PlainProgram) (t : PlainType) (regions : List Rpl) → of_callee P t None regions ≡ []
callee_unknown P t regions = callee_is P t None regions ∙ no_callee P (class_parts t) regions

pub callee_unclassed : (P : PlainProgram) (t : PlainType) (m : Option PlainMember) (regions : List Rpl) → class_parts t ≡ None → of_callee P t m regions ≡ []
callee_unclassed P t m regions e = callee_is P t m regions ∙ ap (λ p. callee_by P p m regions) e

kept_callee : (S : Keeping) (P : PlainProgram) (c : ℕ) (args regions : List Rpl) (o : Option (List Kept)) (m : PlainMember) →
    callee_by (program_kept S P) (Some (c, args)) (kept_at o (Some m)) regions ≡ summary_of o m.summary (seen_as P c args m.class ++ regions)
kept_callee S P c args regions None m = refl
kept_callee S P c args regions (Some ks) m = ap (λ all. summary_with (all ++ regions) (summary_kept ks m.summary)) (seen_alike S P (length P.classes) c m.class args)

pub callee_some : (S : Keeping) (P : PlainProgram) (t : PlainType) (n c : ℕ) (row : Option ℕ) (m : PlainMember) (args regions : List Rpl) →
    row ≡ Some n → member_at P n ≡ Some m → class_parts t ≡ Some (c, args) →
    of_callee (program_kept S P) t (member_in (program_kept S P) row) regions ≡ summary_in S n m.summary (seen_as P c args m.class ++ regions)
callee_some S P t n c row m args regions e h g =
    callee_is (program_kept S P) t (member_in (program_kept S P) row) regions
    ∙ ap (λ r. callee_by (program_kept S P) (class_parts t) (member_in (program_kept S P) r) regions) e
    ∙ ap (λ p. callee_by (program_kept S P) p (member_at (program_kept S P) n) regions) g
    ∙ ap (λ q. callee_by (program_kept S P) (Some (c, args)) q regions) (members_at S P.members n ∙ ap (kept_at (slice_get S n)) h)
    ∙ kept_callee S P c args regions (slice_get S n) m

abbrev made_with : List Rpl → Option PlainMember → List Own
made_with args (Some m) = summary_with args m.summary
made_with args None = []

abbrev made_by : PlainProgram → Option (ℕ × List Rpl) → List Own
made_by P (Some ca) = made_with ca.1 (member_in P (constructor_of P ca.0))
made_by P None = []

class_made : (c : ℕ) (args : List Rpl) (m : Option PlainMember) → of_constructor (class c args) m ≡ made_with args m
class_made c args (Some m) = refl
class_made c args None = refl

made_is : (P : PlainProgram) (t : PlainType) → of_constructor t (constructed P t) ≡ made_by P (class_parts t)
made_is P int = refl
made_is P boolean = refl
made_is P void = refl
made_is P null = refl
made_is P (class c args) = class_made c args (member_in P (constructor_of P c))
made_is P (array t a named) = refl

pub made_unclassed : (P : PlainProgram) (t : PlainType) → class_parts t ≡ None → of_constructor t (constructed P t) ≡ []
made_unclassed P t e = made_is P t ∙ ap (made_by P) e

pub made_unknown : (P : PlainProgram) (t : PlainType) (c : ℕ) (args : List Rpl) → class_parts t ≡ Some (c, args) → constructor_of P c ≡ None → of_constructor t (constructed P t) ≡ []
made_unknown P t c args e h = made_is P t ∙ ap (made_by P) e ∙ ap (λ r. made_with args (member_in P r)) h

kept_made : (args : List Rpl) (o : Option (List Kept)) (m : PlainMember) → made_with args (kept_at o (Some m)) ≡ summary_of o m.summary args
kept_made args None m = refl
kept_made args (Some ks) m = refl

pub made_none : (S : Keeping) (P : PlainProgram) (t : PlainType) (n c : ℕ) (args : List Rpl) → class_parts t ≡ Some (c, args) → constructor_of P c ≡ Some n → member_at P n ≡ None →
    of_constructor t (constructed (program_kept S P) t) ≡ []
made_none S P t n c args g e h =
    made_is (program_kept S P) t ∙ ap (made_by (program_kept S P)) g ∙ ap (λ r. made_with args (member_in (program_kept S P) r)) e
    ∙ ap (made_with args) (members_at S P.members n ∙ ap (kept_at (slice_get S n)) h ∙ no_member (slice_get S n))

pub made_some : (S : Keeping) (P : PlainProgram) (t : PlainType) (n c : ℕ) (m : PlainMember) (args : List Rpl) →
    class_parts t ≡ Some (c, args) → constructor_of P c ≡ Some n → member_at P n ≡ Some m → of_constructor t (constructed (program_kept S P) t) ≡ summary_in S n m.summary args
made_some S P t n c m args g e h =
    made_is (program_kept S P) t ∙ ap (made_by (program_kept S P)) g ∙ ap (λ r. made_with args (member_in (program_kept S P) r)) e
    ∙ ap (made_with args) (members_at S P.members n ∙ ap (kept_at (slice_get S n)) h) ∙ kept_made args (slice_get S n) m
