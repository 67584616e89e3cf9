-- What marks of names say, where names are declared and then no more.
use Rattle.std.proofs.Common.{◌≡◌, ℕ, zero, suc, ◌<◌, Bool, true, false, not, ◌==◌, ◌&&◌, ◌||◌, cond, List, [], ◌∷◌, ◌++◌, length, get_or, set, replicate, inl, inr, refl, sym, ap, ◌∙◌, arith, length-set, get_or-set_same, get_or-set_other, append_assoc}
use Rattle.std.proofs.lemmas.Bool.{false≢true}
use Rattle.std.proofs.lemmas.Bool.Decides.{eqb_tells}
use Rattle.std.proofs.lemmas.List.{ext_get_or, get_or_past}
use Rattle.std.proofs.lemmas.Bool.{cases_lt}
use Rattle.lang_base.specs.declared.refusal.Kind.TheVariants as kind
use Rattle.syntax_tree.specs.declared.region.Named.{Named}
use Rattle.decl_headers.specs.Members.{mark_of, is_free, is_owned, entered, left, all_entered, all_left, second_names}
use Rattle.decl_headers.specs.Passes.{fault_if}
use Rattle.decl_headers.specs.Second.{names_of, is_known, second_of}

and_true : (b : Bool) → (b && true) ≡ b
and_true true = refl
and_true false = refl

and_false : (b : Bool) → (b && false) ≡ false
and_false true = refl
and_false false = refl

-- a mark is never 0
mark_more : (owner : ℕ) → (mark_of owner == 0) ≡ false
mark_more owner = elim (eqb_tells (mark_of owner) 0) [ inl p ↦ absurd (omega (arith, p.1)) | inr q ↦ q.0 ]

none_marked : (owner : ℕ) → (0 == mark_of owner) ≡ false
none_marked owner = elim (eqb_tells 0 (mark_of owner)) [ inl p ↦ absurd (omega (arith, p.1)) | inr q ↦ q.0 ]

same_number : (n : ℕ) → (n == n) ≡ true
same_number n = elim (eqb_tells n n) [ inl p ↦ p.0 | inr q ↦ absurd (q.1 refl) ]

-- what is free is one of the names
free_within : (owners : List ℕ) (x : ℕ) → is_free owners x ≡ true → (x < length owners) × (get_or owners x 0 ≡ 0)
free_within owners x free =
    elim (eqb_tells (get_or owners x 1) 0) [
      | inl p ↦ elim (cases_lt x (length owners)) [
        | inl l ↦ (l, same_read owners x l ∙ p.1)
        | inr g ↦ absurd (omega (arith, get_or_past owners x 1 g, p.1))
      ]
      | inr q ↦ absurd (false≢true (sym q.0 ∙ free))
    ]
  where
    same_read : (owners : List ℕ) (x : ℕ) → x < length owners → get_or owners x 0 ≡ get_or owners x 1
    same_read [] x l = omega arith
    same_read (o ∷ owners) zero l = refl
    same_read (o ∷ owners) (suc x) l = same_read owners x (omega arith)

-- one name is declared
pub free_entered : (owners : List ℕ) (name owner x : ℕ) → is_free (entered owners name owner) x ≡ (is_free owners x && not (name == x))
free_entered owners name owner x = by (is_free owners name) refl
  where
    by : (b : Bool) → is_free owners name ≡ b → is_free (cond b (set owners name (mark_of owner)) owners) x ≡ (is_free owners x && not (name == x))
    by true free =
        elim (eqb_tells name x) [
          | inl p ↦
              let within = (free_within owners name free).0 in
              let is : get_or (set owners name (mark_of owner)) x 1 ≡ mark_of owner =
              ap (λ k. get_or (set owners name (mark_of owner)) k 1) (sym p.1) ∙ get_or-set_same owners name (mark_of owner) 1 within in
              ap (λ v. v == 0) is ∙ mark_more owner ∙ sym (ap (λ t. is_free owners x && not t) p.0 ∙ and_false (is_free owners x))
          | inr q ↦
              let is : get_or (set owners name (mark_of owner)) x 1 ≡ get_or owners x 1 = get_or-set_other owners name x (mark_of owner) 1 (λ e. q.1 (sym e)) in
              ap (λ v. v == 0) is ∙ sym (ap (λ t. is_free owners x && not t) q.0 ∙ and_true (is_free owners x))
        ]
    by false taken =
        elim (eqb_tells name x) [
          | inl p ↦
              let here : is_free owners x ≡ false = ap (is_free owners) (sym p.1) ∙ taken in
              here ∙ sym (ap (λ t. t && not (name == x)) here)
          | inr q ↦ sym (ap (λ t. is_free owners x && not t) q.0 ∙ and_true (is_free owners x))
        ]

pub mark_entered : (owners : List ℕ) (name owner x : ℕ) → get_or (entered owners name owner) x 0 ≡ cond (is_free owners x && (name == x)) (mark_of owner) (get_or owners x 0)
mark_entered owners name owner x = by (is_free owners name) refl
  where
    by : (b : Bool) → is_free owners name ≡ b → get_or (cond b (set owners name (mark_of owner)) owners) x 0 ≡ cond (is_free owners x && (name == x)) (mark_of owner) (get_or owners x 0)
    by true free =
        elim (eqb_tells name x) [
          | inl p ↦
              let within = (free_within owners name free).0 in
              let is : get_or (set owners name (mark_of owner)) x 0 ≡ mark_of owner =
              ap (λ k. get_or (set owners name (mark_of owner)) k 0) (sym p.1) ∙ get_or-set_same owners name (mark_of owner) 0 within in
              let here : (is_free owners x && (name == x)) ≡ true = ap (λ t. is_free owners x && t) p.0 ∙ and_true (is_free owners x) ∙ ap (is_free owners) (sym p.1) ∙ free in
              is ∙ sym (ap (λ t. cond t (mark_of owner) (get_or owners x 0)) here)
          | inr q ↦
              let is : get_or (set owners name (mark_of owner)) x 0 ≡ get_or owners x 0 = get_or-set_other owners name x (mark_of owner) 0 (λ e. q.1 (sym e)) in
              is ∙ sym (ap (λ t. cond (is_free owners x && t) (mark_of owner) (get_or owners x 0)) q.0 ∙ ap (λ t. cond t (mark_of owner) (get_or owners x 0)) (and_false (is_free owners x)))
        ]
    by false taken =
        elim (eqb_tells name x) [
          | inl p ↦
              let here : is_free owners x ≡ false = ap (is_free owners) (sym p.1) ∙ taken in
              sym (ap (λ t. cond (t && (name == x)) (mark_of owner) (get_or owners x 0)) here)
          | inr q ↦
              sym (ap (λ t. cond (is_free owners x && t) (mark_of owner) (get_or owners x 0)) q.0 ∙ ap (λ t. cond t (mark_of owner) (get_or owners x 0)) (and_false (is_free owners x)))
        ]

-- a list of names is declared
pub free_all_entered : (owners : List ℕ) (owner : ℕ) (names : List Named) (x : ℕ) → is_free (all_entered owners owner names) x ≡ (is_free owners x && not (is_known (names_of names) x))
free_all_entered owners owner [] x = sym (and_true (is_free owners x))
free_all_entered owners owner (named ∷ names) x =
    free_all_entered (entered owners named.name owner) owner names x
    ∙ ap (λ t. t && not (is_known (names_of names) x)) (free_entered owners named.name owner x)
    ∙ by (is_free owners x) (named.name == x) (is_known (names_of names) x)
  where
    by : (f e k : Bool) → ((f && not e) && not k) ≡ (f && not (e || k))
    by true true k = refl
    by true false k = refl
    by false e k = refl

pub mark_all_entered : (owners : List ℕ) (owner : ℕ) (names : List Named) (x : ℕ) → get_or (all_entered owners owner names) x 0 ≡ cond (is_free owners x && is_known (names_of names) x) (mark_of owner) (get_or owners x 0)
mark_all_entered owners owner [] x = sym (ap (λ t. cond t (mark_of owner) (get_or owners x 0)) (and_false (is_free owners x)))
mark_all_entered owners owner (named ∷ names) x =
    mark_all_entered (entered owners named.name owner) owner names x
    ∙ ap (λ t. cond (t && is_known (names_of names) x) (mark_of owner) (get_or (entered owners named.name owner) x 0)) (free_entered owners named.name owner x)
    ∙ ap (λ v. cond ((is_free owners x && not (named.name == x)) && is_known (names_of names) x) (mark_of owner) v) (mark_entered owners named.name owner x)
    ∙ by (is_free owners x) (named.name == x) (is_known (names_of names) x)
  where
    by : (f e k : Bool) → cond ((f && not e) && k) (mark_of owner) (cond (f && e) (mark_of owner) (get_or owners x 0)) ≡ cond (f && (e || k)) (mark_of owner) (get_or owners x 0)
    by true true k = refl
    by true false k = refl
    by false e k = refl

-- a name is declared no more
mark_left : (owners : List ℕ) (name owner x : ℕ) → get_or (left owners name owner) x 0 ≡ cond (is_owned owners x owner && (name == x)) 0 (get_or owners x 0)
mark_left owners name owner x = by (is_owned owners name owner) refl
  where
    zeroed : (owners : List ℕ) (x : ℕ) → get_or (set owners x 0) x 0 ≡ 0
    zeroed [] x = refl
    zeroed (o ∷ owners) zero = refl
    zeroed (o ∷ owners) (suc x) = zeroed owners x

    by : (b : Bool) → is_owned owners name owner ≡ b → get_or (cond b (set owners name 0) owners) x 0 ≡ cond (is_owned owners x owner && (name == x)) 0 (get_or owners x 0)
    by true owned =
        elim (eqb_tells name x) [
          | inl p ↦
              let here : (is_owned owners x owner && (name == x)) ≡ true = ap (λ t. is_owned owners x owner && t) p.0 ∙ and_true (is_owned owners x owner) ∙ ap (λ k. is_owned owners k owner) (sym p.1) ∙ owned in
              ap (λ k. get_or (set owners k 0) x 0) p.1 ∙ zeroed owners x ∙ sym (ap (λ t. cond t 0 (get_or owners x 0)) here)
          | inr q ↦
              get_or-set_other owners name x 0 0 (λ e. q.1 (sym e))
              ∙ sym (ap (λ t. cond (is_owned owners x owner && t) 0 (get_or owners x 0)) q.0 ∙ ap (λ t. cond t 0 (get_or owners x 0)) (and_false (is_owned owners x owner)))
        ]
    by false other =
        elim (eqb_tells name x) [
          | inl p ↦
              let here : is_owned owners x owner ≡ false = ap (λ k. is_owned owners k owner) (sym p.1) ∙ other in
              sym (ap (λ t. cond (t && (name == x)) 0 (get_or owners x 0)) here)
          | inr q ↦
              sym (ap (λ t. cond (is_owned owners x owner && t) 0 (get_or owners x 0)) q.0 ∙ ap (λ t. cond t 0 (get_or owners x 0)) (and_false (is_owned owners x owner)))
        ]

mark_all_left : (owners : List ℕ) (owner : ℕ) (names : List Named) (x : ℕ) → get_or (all_left owners owner names) x 0 ≡ cond (is_owned owners x owner && is_known (names_of names) x) 0 (get_or owners x 0)
mark_all_left owners owner [] x = sym (ap (λ t. cond t 0 (get_or owners x 0)) (and_false (is_owned owners x owner)))
mark_all_left owners owner (named ∷ names) x =
    mark_all_left (left owners named.name owner) owner names x
    ∙ ap (λ v. cond ((v == mark_of owner) && is_known (names_of names) x) 0 v) (mark_left owners named.name owner x)
    ∙ by (get_or owners x 0 == mark_of owner) refl (named.name == x) (is_known (names_of names) x)
  where
    by : (b : Bool) → (get_or owners x 0 == mark_of owner) ≡ b → (e k : Bool) →
        cond ((cond (b && e) 0 (get_or owners x 0) == mark_of owner) && k) 0 (cond (b && e) 0 (get_or owners x 0)) ≡ cond (b && (e || k)) 0 (get_or owners x 0)
    by true is true k = ap (λ t. cond (t && k) 0 0) (none_marked owner)
    by true is false k = ap (λ t. cond (t && k) 0 (get_or owners x 0)) is
    by false is e k = ap (λ t. cond (t && k) 0 (get_or owners x 0)) is

length_entered : (owners : List ℕ) (owner : ℕ) (names : List Named) → length (all_entered owners owner names) ≡ length owners
length_entered owners owner [] = refl
length_entered owners owner (named ∷ names) = length_entered (entered owners named.name owner) owner names ∙ by (is_free owners named.name)
  where
    by : (b : Bool) → length (cond b (set owners named.name (mark_of owner)) owners) ≡ length owners
    by true = length-set owners named.name (mark_of owner)
    by false = refl

length_left : (owners : List ℕ) (owner : ℕ) (names : List Named) → length (all_left owners owner names) ≡ length owners
length_left owners owner [] = refl
length_left owners owner (named ∷ names) = length_left (left owners named.name owner) owner names ∙ by (is_owned owners named.name owner)
  where
    by : (b : Bool) → length (cond b (set owners named.name 0) owners) ≡ length owners
    by true = length-set owners named.name 0
    by false = refl

-- the owner declares nothing
abbrev pub IsNoOwner : List ℕ → ℕ → Type 0
IsNoOwner owners owner = (x : ℕ) → is_owned owners x owner ≡ false

-- what is declared and then no more leaves everything as it was
pub entered_and_left : (owners : List ℕ) (owner : ℕ) (names more : List Named) → IsNoOwner owners owner → ((x : ℕ) → is_known (names_of names) x ≡ true → is_known (names_of more) x ≡ true) → all_left (all_entered owners owner names) owner more ≡ owners
entered_and_left owners owner names more none within =
    ext_get_or 0 (all_left (all_entered owners owner names) owner more) owners
    (length_left (all_entered owners owner names) owner more ∙ length_entered owners owner names)
    (λ x below. at x)
  where
    is_zero : (x : ℕ) → is_free owners x ≡ true → 0 ≡ get_or owners x 0
    is_zero x free = sym (free_within owners x free).1

    by : (x : ℕ) (f k l : Bool) → is_free owners x ≡ f → (k ≡ true → l ≡ true) →
        cond ((cond (f && k) (mark_of owner) (get_or owners x 0) == mark_of owner) && l) 0 (cond (f && k) (mark_of owner) (get_or owners x 0)) ≡ get_or owners x 0
    by x true true l free leads =
        ap (λ t. cond (t && l) 0 (mark_of owner)) (same_number (mark_of owner))
        ∙ ap (λ t. cond t 0 (mark_of owner)) (leads refl)
        ∙ is_zero x free
    by x true false l free leads = ap (λ t. cond (t && l) 0 (get_or owners x 0)) (none x)
    by x false k l free leads = ap (λ t. cond (t && l) 0 (get_or owners x 0)) (none x)

    at : (x : ℕ) → get_or (all_left (all_entered owners owner names) owner more) x 0 ≡ get_or owners x 0
    at x =
        mark_all_left (all_entered owners owner names) owner more x
        ∙ ap (λ v. cond ((v == mark_of owner) && is_known (names_of more) x) 0 v) (mark_all_entered owners owner names x)
        ∙ by x (is_free owners x) (is_known (names_of names) x) (is_known (names_of more) x) refl (within x)

-- the marks of the names below a count say which ones are known
abbrev pub Says : ℕ → List ℕ → List ℕ → Type 0
Says count owners known = (x : ℕ) → x < count → is_free owners x ≡ not (is_known known x)

pub says_entered : (count : ℕ) (owners known : List ℕ) (owner name : ℕ) → Says count owners known → Says count (entered owners name owner) (name ∷ known)
says_entered count owners known owner name says x below =
    free_entered owners name owner x
    ∙ ap (λ t. t && not (name == x)) (says x below)
    ∙ by (is_known known x) (name == x)
  where
    by : (k e : Bool) → (not k && not e) ≡ not (e || k)
    by true true = refl
    by true false = refl
    by false true = refl
    by false false = refl

known_append : (xs ys : List ℕ) (x : ℕ) → is_known (xs ++ ys) x ≡ (is_known xs x || is_known ys x)
known_append [] ys x = refl
known_append (y ∷ xs) ys x = ap (λ t. (y == x) || t) (known_append xs ys x) ∙ by (y == x) (is_known xs x) (is_known ys x)
  where
    by : (a b c : Bool) → (a || (b || c)) ≡ ((a || b) || c)
    by true b c = refl
    by false b c = refl

pub says_all_entered : (count : ℕ) (owners known : List ℕ) (owner : ℕ) (names : List Named) → Says count owners known → Says count (all_entered owners owner names) (names_of names ++ known)
says_all_entered count owners known owner names says x below =
    free_all_entered owners owner names x
    ∙ ap (λ t. t && not (is_known (names_of names) x)) (says x below)
    ∙ by (is_known known x) (is_known (names_of names) x)
    ∙ ap not (sym (known_append (names_of names) known x))
  where
    by : (k e : Bool) → (not k && not e) ≡ not (e || k)
    by true true = refl
    by true false = refl
    by false true = refl
    by false false = refl

-- the names are below a count
abbrev pub AllBelow : ℕ → List Named → Type 0
AllBelow count [] = Unit {0}
AllBelow count (named ∷ names) = (named.name < count) × AllBelow count names

not_not : (b : Bool) → not (not b) ≡ b
not_not true = refl
not_not false = refl

-- what the marks say a second time is what is said a second time
pub second_same : (count : ℕ) (owners known : List ℕ) (owner : ℕ) (names : List Named) → Says count owners known → AllBelow count names → second_names owners owner names ≡ second_of known names
second_same count owners known owner [] says below = refl
second_same count owners known owner (named ∷ names) says below =
    ap (λ t. fault_if t kind.Duplicate named.place ++ second_names (entered owners named.name owner) owner names)
    (ap not (says named.name below.0) ∙ not_not (is_known known named.name))
    ∙ ap (λ more. fault_if (is_known known named.name) kind.Duplicate named.place ++ more)
    (second_same count (entered owners named.name owner) (named.name ∷ known) owner names (says_entered count owners known owner named.name says) below.1)

-- one list of names after another
pub entered_append : (owners : List ℕ) (owner : ℕ) (xs ys : List Named) → all_entered owners owner (xs ++ ys) ≡ all_entered (all_entered owners owner xs) owner ys
entered_append owners owner [] ys = refl
entered_append owners owner (x ∷ xs) ys = entered_append (entered owners x.name owner) owner xs ys

pub left_append : (owners : List ℕ) (owner : ℕ) (xs ys : List Named) → all_left owners owner (xs ++ ys) ≡ all_left (all_left owners owner xs) owner ys
left_append owners owner [] ys = refl
left_append owners owner (x ∷ xs) ys = left_append (left owners x.name owner) owner xs ys

pub second_append : (owners : List ℕ) (owner : ℕ) (xs ys : List Named) → second_names owners owner (xs ++ ys) ≡ second_names owners owner xs ++ second_names (all_entered owners owner xs) owner ys
second_append owners owner [] ys = refl
second_append owners owner (x ∷ xs) ys =
    ap (λ more. fault_if (not (is_free owners x.name)) kind.Duplicate x.place ++ more) (second_append (entered owners x.name owner) owner xs ys)
    ∙ sym (append_assoc (fault_if (not (is_free owners x.name)) kind.Duplicate x.place) (second_names (entered owners x.name owner) owner xs) (second_names (all_entered (entered owners x.name owner) owner xs) owner ys))

-- nothing is declared
pub none_owned : (count owner : ℕ) → IsNoOwner (replicate count 0) owner
none_owned count owner x = ap (λ v. v == mark_of owner) (none_at count x) ∙ none_marked owner
  where
    none_at : (count x : ℕ) → ◌≡◌ {A = ℕ} (get_or (replicate count 0) x 0) 0
    none_at zero x = refl
    none_at (suc count) zero = refl
    none_at (suc count) (suc x) = none_at count x

pub none_said : (count : ℕ) → Says count (replicate count 0) []
none_said zero x below = absurd (omega arith)
none_said (suc count) zero below = refl
none_said (suc count) (suc x) below = none_said count x (omega arith)

-- what the class declares, the method doesn't
pub other_owner : (count owner other : ℕ) (names : List Named) → (mark_of owner == mark_of other) ≡ false → IsNoOwner (all_entered (replicate count 0) owner names) other
other_owner count owner other names differ x =
    ap (λ v. v == mark_of other) (mark_all_entered (replicate count 0) owner names x)
    ∙ by (is_free (replicate count 0) x && is_known (names_of names) x)
  where
    by : (b : Bool) → (cond b (mark_of owner) (get_or (replicate count 0) x 0) == mark_of other) ≡ false
    by true = differ
    by false = none_owned count other x
