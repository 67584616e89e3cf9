-- Scopes that are alike but for what branches copy: what can be read in both has one type, and constants and parts are the same.
use Rattle.std.proofs.Common.{◌≡◌, ◌∙◌, ℕ, ◌==◌, Bool, true, false, cond, List, inl, inr, Option, Some, None, option_map, refl, ap, sym, subst}
use Rattle.std.specs.List.{list_any}
use Rattle.lang_base.specs.declared.region.Rpl.{Rpl}
use Rattle.lang_base.specs.Types.{PlainType, int}
use Rattle.lang_typed.specs.Scope.{Scope, Local, variable, frozen, constant, part, reserved, with_local, read_alone, seen_in_branch}
use Rattle.lang_typed.specs.Typing.{Holds, variable_elem}

-- a variable of a type, or what it is seen as from a branch
pub data IsSeen (t : PlainType) : Local → Type 0 where
  as_variable : IsSeen t (variable t)
  as_frozen : IsSeen t (frozen t)
  as_reserved : IsSeen t reserved

pub data LocalAlike : Option Local → Option Local → Type 0 where
  same : {l : Option Local} → LocalAlike l l
  seen : {t : PlainType} {k l : Local} → IsSeen t k → IsSeen t l → LocalAlike (Some k) (Some l)

pub record ScopesAlike (L M : Scope) : Type 0 where
  pub local : (x : ℕ) → LocalAlike (L.local x) (M.local x)

-- what can be read

abbrev read_type : Option Local → Option PlainType
read_type None = None
read_type (Some (variable t)) = Some t
read_type (Some (frozen t)) = Some t
read_type (Some (constant t)) = Some t
read_type (Some (part t a)) = None
read_type (Some reserved) = None

held_read : (l : Option Local) (t : PlainType) → Holds l t → read_type l ≡ Some t
held_read l t (inl e) = ap read_type e
held_read l t (inr (inl e)) = ap read_type e
held_read l t (inr (inr e)) = ap read_type e

seen_type : {t u : PlainType} {k : Local} → IsSeen t k → read_type (Some k) ≡ Some u → u ≡ t
seen_type as_variable e = cc
seen_type as_frozen e = cc
seen_type as_reserved e = cc

read_one : {l k : Option Local} {t u : PlainType} → LocalAlike l k → read_type l ≡ Some t → read_type k ≡ Some u → t ≡ u
read_one same e d = cc
read_one (seen a b) e d = seen_type a e ∙ sym (seen_type b d)

pub held_one : {l k : Option Local} {t u : PlainType} → LocalAlike l k → Holds l t → Holds k u → t ≡ u
held_one {l} {k} {t} {u} alike h i = read_one alike (held_read l t h) (held_read k u i)

not_part : {t u : PlainType} {a : Rpl} {k : Local} → IsSeen t k → (let o : Option Local = Some k in o) ≡ Some (part u a) → ⊥
not_part as_variable e = cc
not_part as_frozen e = cc
not_part as_reserved e = cc

pub part_one : {l k : Option Local} {t u : PlainType} {a b : Rpl} → LocalAlike l k → l ≡ Some (part t a) → k ≡ Some (part u b) → (t ≡ u) × (a ≡ b)
part_one {t = t} {u = u} {a = a} {b = b} same e d = let both : part t a ≡ part u b = cc in (cc both, cc both)
part_one (seen c d) e i = absurd (not_part c e)

part_unread : {l : Option Local} {t u : PlainType} {a : Rpl} → l ≡ Some (part t a) → read_type l ≡ Some u → ⊥
part_unread e d = let none = ap read_type e in cc

-- one of them can't be read where the other is a part
pub held_no_part : {l k : Option Local} {t u : PlainType} {a : Rpl} → LocalAlike l k → Holds l t → k ≡ Some (part u a) → ⊥
held_no_part {l} {k} {t} same h e = part_unread e (held_read l t h)
held_no_part (seen a b) h e = not_part b e

pub part_not_held : {l k : Option Local} {t u : PlainType} {a : Rpl} → LocalAlike l k → l ≡ Some (part u a) → Holds k t → ⊥
part_not_held {l} {k} {t} same e h = part_unread e (held_read k t h)
part_not_held (seen a b) e h = not_part a e

seen_any : (x : ℕ) {t u : PlainType} {k l : Local} → IsSeen t k → IsSeen u l → variable_elem x (Some k) ≡ variable_elem x (Some l)
seen_any x as_variable as_variable = refl
seen_any x as_variable as_frozen = refl
seen_any x as_variable as_reserved = refl
seen_any x as_frozen as_variable = refl
seen_any x as_frozen as_frozen = refl
seen_any x as_frozen as_reserved = refl
seen_any x as_reserved as_variable = refl
seen_any x as_reserved as_frozen = refl
seen_any x as_reserved as_reserved = refl

pub element_same : (x : ℕ) {l k : Option Local} → LocalAlike l k → variable_elem x l ≡ variable_elem x k
element_same x same = refl
element_same x (seen a b) = seen_any x a b

-- with one more local that is the same
pub with_alike : {L M : Scope} (x : ℕ) (l : Local) → ScopesAlike L M → ScopesAlike (with_local x l L) (with_local x l M)
with_alike {L} {M} x l alike = record { local = λ y. by y (y == x) (alike.local y) }
  where
    by : (y : ℕ) (b : Bool) → LocalAlike (L.local y) (M.local y) → LocalAlike (cond b (Some l) (L.local y)) (cond b (Some l) (M.local y))
    by y true h = same
    by y false h = h

alone_seen : {t : PlainType} {k : Local} → IsSeen t k → IsSeen t (read_alone k)
alone_seen as_variable = as_frozen
alone_seen as_frozen = as_frozen
alone_seen as_reserved = as_reserved

pub alone_alike : {l k : Option Local} → LocalAlike l k → LocalAlike (option_map read_alone l) (option_map read_alone k)
alone_alike same = same
alone_alike (seen a b) = seen (alone_seen a) (alone_seen b)

-- in branches of which each may copy something else

record StillSeen (t : PlainType) (o : Option Local) : Type 0 where
  kind : Local
  is : o ≡ Some kind
  seen : IsSeen t kind

branch_seen : (own others : List ℕ) (x : ℕ) {t : PlainType} {k : Local} → IsSeen t k → StillSeen t (seen_in_branch own others x (Some k))
branch_seen own others x {t} {k} s = by (list_any (λ y. x == y) others) (list_any (λ y. x == y) own)
  where
    by : (b c : Bool) → StillSeen t (cond b (Some reserved) (cond c (Some k) (Some (read_alone k))))
    by true c = record { kind = reserved; is = refl; seen = as_reserved }
    by false true = record { kind = k; is = refl; seen = s }
    by false false = record { kind = read_alone k; is = refl; seen = alone_seen s }

both_seen : {t : PlainType} {l k : Option Local} → StillSeen t l → StillSeen t k → LocalAlike l k
both_seen {t} {l} {k} a b = subst (λ o. LocalAlike o k) (sym a.is) (subst (LocalAlike (Some a.kind)) (sym b.is) (seen a.seen b.seen))

branch_none : (own others : List ℕ) (x : ℕ) → seen_in_branch own others x None ≡ None
branch_none own others x = by (list_any (λ y. x == y) others) (list_any (λ y. x == y) own)
  where
    by : (b c : Bool) → (let o : Option Local = None in cond b o (cond c o o)) ≡ None
    by true c = refl
    by false true = refl
    by false false = refl

-- a local that isn't a variable, so that none of the branches copies it
branch_kept : (own others : List ℕ) (x : ℕ) (l : Local) → read_alone l ≡ l → (list_any (λ y. x == y) others ≡ true → (t : PlainType) × ((let o : Option Local = Some l in o) ≡ Some (variable t))) →
    ((t : PlainType) → l ≡ variable t → ⊥) → seen_in_branch own others x (Some l) ≡ Some l
branch_kept own others x l alone copied fixed = by (list_any (λ y. x == y) others) (list_any (λ y. x == y) own) copied
  where
    by : (b c : Bool) → (b ≡ true → (t : PlainType) × ((let o : Option Local = Some l in o) ≡ Some (variable t))) → cond b (Some reserved) (cond c (Some l) (Some (read_alone l))) ≡ Some l
    by true c h = let w = h refl in let e = w.1 in absurd (fixed w.0 cc)
    by false true h = refl
    by false false h = ap Some alone

-- those that others copy are variables
abbrev pub Copied : List ℕ → ℕ → Option Local → Type 0
Copied others x l = list_any (λ y. x == y) others ≡ true → (t : PlainType) × (l ≡ Some (variable t))

pub branch_alike : (own others own' others' : List ℕ) (x : ℕ) {l k : Option Local} → LocalAlike l k → Copied others x l → Copied others' x k →
    LocalAlike (seen_in_branch own others x l) (seen_in_branch own' others' x k)
branch_alike own others own' others' x (same {l = None}) c d =
    subst (λ o. LocalAlike o (seen_in_branch own' others' x None)) (sym (branch_none own others x)) (subst (LocalAlike None) (sym (branch_none own' others' x)) same)
branch_alike own others own' others' x (same {l = Some (variable t)}) c d = both_seen (branch_seen own others x as_variable) (branch_seen own' others' x as_variable)
branch_alike own others own' others' x (same {l = Some (frozen t)}) c d = both_seen (branch_seen own others x as_frozen) (branch_seen own' others' x as_frozen)
branch_alike own others own' others' x (same {l = Some reserved}) c d = both_seen {t = int} (branch_seen own others x as_reserved) (branch_seen own' others' x as_reserved)
branch_alike own others own' others' x (same {l = Some (constant t)}) c d =
    let kept = branch_kept own others x (constant t) refl c (λ u e. cc) in
    let so = branch_kept own' others' x (constant t) refl d (λ u e. cc) in
    subst (λ o. LocalAlike o (seen_in_branch own' others' x (Some (constant t)))) (sym kept) (subst (LocalAlike (Some (constant t))) (sym so) same)
branch_alike own others own' others' x (same {l = Some (part t a)}) c d =
    let kept = branch_kept own others x (part t a) refl c (λ u e. cc) in
    let so = branch_kept own' others' x (part t a) refl d (λ u e. cc) in
    subst (λ o. LocalAlike o (seen_in_branch own' others' x (Some (part t a)))) (sym kept) (subst (LocalAlike (Some (part t a))) (sym so) same)
branch_alike own others own' others' x (seen a b) c d = both_seen (branch_seen own others x a) (branch_seen own' others' x b)
