-- What a use through a receiver forbids whose region arguments aren't all fully specified, for the checker and for the judgement.
use Rattle.std.proofs.Common.{◌≡◌, ◌∙◌, ℕ, zero, suc, ◌+◌, ◌≤◌, min, Bool, true, false, not, ◌&&◌, ◌||◌, IsTrue, List, [], ◌∷◌, ◌++◌, All, map, slice_index_or, refl, sym, ap, subst, arith}
use Rattle.std.proofs.lemmas.Bool.{or_parts}
use Rattle.std.proofs.lemmas.List.Elements.{All-nil, All-cons, All-head, All-tail}
use Rattle.lang_base.specs.declared.region.Head.TheVariants.{Param}
use Rattle.lang_base.specs.declared.region.Rpl.{Rpl}
use Rattle.lang_base.specs.declared.ty.Ty.{Ty}
use Rattle.lang_base.specs.Regions.{fully_specified}
use Rattle.lang_base.specs.Types.{PlainType, int, boolean, void, null, class, array, plain_type, has_param, mentions_param, rigid_in_param}
use Rattle.body_exprs.specs.Partial.{param_number, mentions_partial, rigid_in_partial, some_mention_partial}
use Rattle.lang_typed.specs.Types.{Known, Readable}
use Rattle.sound_bodies.specs.Seen.{HasNumbers, AllHaveNumbers}

abbrev IsFull : Rpl → Type 0
IsFull a = IsTrue (fully_specified a)

-- an argument isn't fully specified whose parameter passes the test
abbrev partial : (ℕ → Bool) → ℕ → List Rpl → Bool
partial test from [] = false
partial test from (a ∷ args) = (not (fully_specified a) && test (param_number from)) || partial test (from + 1) args

mentions_is : (t : PlainType) (from : ℕ) (args : List Rpl) → mentions_partial t from args ≡ partial (λ p. mentions_param p t) from args
mentions_is t from [] = refl
mentions_is t from (a ∷ args) = ap (λ z. (not (fully_specified a) && mentions_param (param_number from) t) || z) (mentions_is t (from + 1) args)

rigid_is : (t : PlainType) (from : ℕ) (args : List Rpl) → rigid_in_partial t from args ≡ partial (λ p. rigid_in_param p t) from args
rigid_is t from [] = refl
rigid_is t from (a ∷ args) = ap (λ z. (not (fully_specified a) && rigid_in_param (param_number from) t) || z) (rigid_is t (from + 1) args)

full_if : (a : Bool) (b : Bool) → (not a && b) ≡ false → b ≡ true → a ≡ true
full_if true b h k = refl
full_if false true h k = cc
full_if false false h k = cc

rest_full : (rest : List Rpl) (p : ℕ) (d : Rpl) → All IsFull rest → fully_specified d ≡ true → fully_specified (slice_index_or rest p d) ≡ true
rest_full [] p d all h = h
rest_full (a ∷ rest) zero d all h = All-head IsFull a rest all
rest_full (a ∷ rest) (suc p) d all h = rest_full rest p d (All-tail IsFull a rest all) h

arg_full : (test : ℕ → Bool) (from : ℕ) (owned rest : List Rpl) (p : ℕ) (d : Rpl) → partial test from owned ≡ false → ((q : ℕ) → test q ≡ true → q ≤ 4294967295) → All IsFull rest → fully_specified d ≡ true →
    test (from + p) ≡ true → fully_specified (slice_index_or (owned ++ rest) p d) ≡ true
arg_full test from [] rest p d none few all h k = rest_full rest p d all h
arg_full test from (a ∷ owned) rest zero d none few all h k =
    let parts = or_parts (not (fully_specified a) && test (param_number from)) (partial test (from + 1) owned) none in
    let l = few (from + 0) k in
    let same : from + 0 ≡ min from 4294967295 = omega (arith, l) in
    full_if (fully_specified a) (test (param_number from)) parts.0 (ap test (sym same) ∙ k)
arg_full test from (a ∷ owned) rest (suc p) d none few all h k =
    let parts = or_parts (not (fully_specified a) && test (param_number from)) (partial test (from + 1) owned) none in
    let same : from + 1 + p ≡ from + suc p = omega arith in
    arg_full test (from + 1) owned rest p d parts.1 few all h (ap test same ∙ k)

-- a type is rigid only in what it mentions
pub rigid_mentions : (p : ℕ) (t : PlainType) → rigid_in_param p t ≡ true → mentions_param p t ≡ true
rigid_mentions p int k = cc
rigid_mentions p boolean k = cc
rigid_mentions p void k = cc
rigid_mentions p null k = cc
rigid_mentions p (class c args) k = cc
rigid_mentions p (array t a named) k = by (has_param p a) k
  where
    by : (b : Bool) → mentions_param p t ≡ true → b || mentions_param p t ≡ true
    by true k = refl
    by false k = k

pub known_from : (t : PlainType) (owned regions : List Rpl) → mentions_partial t 0 owned ≡ false → HasNumbers t → All IsFull regions → Known (owned ++ regions) t
known_from t owned regions none few all p h =
    let same : p ≡ 0 + p = omega arith in
    arg_full (λ q. mentions_param q t) 0 owned regions p (record { head = Param p; elems = [] }) (sym (mentions_is t 0 owned) ∙ none) few all refl (subst (λ q. mentions_param q t ≡ true) same h)

pub readable_from : (t : PlainType) (owned regions : List Rpl) → rigid_in_partial t 0 owned ≡ false → HasNumbers t → All IsFull regions → Readable (owned ++ regions) t
readable_from t owned regions none few all p h =
    let same : p ≡ 0 + p = omega arith in
    arg_full (λ q. rigid_in_param q t) 0 owned regions p (record { head = Param p; elems = [] }) (sym (rigid_is t 0 owned) ∙ none) (λ q k. few q (rigid_mentions q t k)) all refl (subst (λ q. rigid_in_param q t ≡ true) same h)

pub all_known : (ts : List Ty) (owned regions : List Rpl) → some_mention_partial owned ts ≡ false → AllHaveNumbers ts → All IsFull regions → All (Known (owned ++ regions)) (map plain_type ts)
all_known [] owned regions none few all = All-nil (Known (owned ++ regions))
all_known (t ∷ ts) owned regions none few all =
    let parts = or_parts (mentions_partial (plain_type t) 0 owned) (some_mention_partial owned ts) none in
    All-cons (Known (owned ++ regions)) (plain_type t) (map plain_type ts) (known_from (plain_type t) owned regions parts.0 few.0 all) (all_known ts owned regions parts.1 few.1 all)
