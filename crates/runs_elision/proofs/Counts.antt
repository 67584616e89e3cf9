-- What is read off like values, answers and regions is the same, or like.
use Rattle.std.proofs.Common.{◌≡◌, ℕ, zero, suc, ◌+◌, ◌-◌, ℤ, pos, Bool, true, false, cond, not, ◌==◌, ◌||◌, List, [], ◌∷◌, ◌++◌, map, length, reverse}
use Rattle.std.proofs.Common.{refl, sym, ap, ap₂, ◌∙◌, subst, Option, Some, None, slice_get, eq-eqb, eqb-true, length-append}
use Rattle.std.proofs.lemmas.List.{length-map, reverse-append}
use Rattle.std.specs.Prelude.{int_lt, slice_set, slice_index_or}
use Rattle.std.specs.Int.{w32, int_wrapping_add, int_wrapping_neg}
use Rattle.std.specs.Prelude.{nat_lt, ◌+ℤ◌, if◌then◌else◌}
use Rattle.lang_base.specs.declared.place.Place.{Place}
use Rattle.lang_base.specs.declared.value.Trap.{Trap}
use Rattle.std.specs.List.{list_any}
use Rattle.std.proofs.lemmas.Bool.{and_from, false_from_ne_true}
use Rattle.lang_base.specs.declared.region.Head.TheVariants as head
use Rattle.lang_base.specs.declared.region.Head.{Head}
use Rattle.lang_base.specs.declared.region.Rpl.{Rpl}
use Rattle.lang_base.specs.declared.op.BinaryOp.{BinaryOp}
use Rattle.lang_base.specs.declared.op.UnaryOp.{UnaryOp}
use Rattle.lang_base.specs.declared.op.UnaryOp.TheVariants.{Negate, Not}
use Rattle.lang_typed.specs.Plain.{PlainParent}
use Rattle.lang_meaning.proofs.Operated.{Alike, neither, ints, booleans, operated_alike}
use Rattle.lang_meaning.specs.Values.{Value, Int, Boolean, Region, Naming}
use Rattle.lang_meaning.specs.Actions.{Answer, Ending, Returned, Assigned, Work}
use Rattle.lang_meaning.specs.Asking.{ended}
use Rattle.lang_meaning.specs.Core.{Result}
use Rattle.lang_meaning.specs.Expressions.{none}
use Rattle.lang_meaning.specs.Outcomes.{trap_of, first_trap, locals_of, all_locals, joined, joined_or}
use Rattle.lang_meaning.specs.Counts.{number, truth, value_read, is_out, length_seen, name_made, class_seen, class_entered, is_below, operated}
use Rattle.lang_meaning.specs.Counts.{unary, same_value, slot_value, padded, part_place, part_first, part_length, part_taken, part_begin, is_part, numbered}
use Rattle.lang_meaning.specs.Counts.{assigned, copied, text_of, brought}
use Rattle.lang_meaning.specs.Elision.{LocalRegion as Counted}
use Rattle.lang_meaning.specs.Regions.{Around, head_region, concrete, part_of, is_long, some_long, handed_up, regions_above, most_parts}
use Rattle.runs_theory.specs.Objects.{Name, LocalRegion, same_name}
use Rattle.runs_theory.proofs.events.Cells.{same_name_eq}
use Rattle.runs_theory.proofs.events.Mine.{test_same}
use Rattle.runs_elision.proofs.Worlds.{Names, Distinct, ValueLike, int_like, boolean_like, null_like, object_like, ValuesLike, no_values, more_values, LocalsLike}
use Rattle.runs_elision.proofs.Worlds.{no_locals, more_locals, RegionsLike, no_regions, AnswerLike, went_like, got_like, out_like, class_like, length_like}
use Rattle.runs_elision.proofs.Worlds.{named_like}
use Rattle.runs_elision.proofs.Worlds.{joined_like, fell_like}
use Rattle.runs_elision.proofs.Worlds.{BroughtLike, back_like, trap_like, EndingLike, returned_like, assigned_like, trapped_like, EndingsLike, no_endings}
use Rattle.runs_elision.proofs.Worlds.{more_endings, ResultLike, goes_on_like, returns_like}

pub number_like : {ns : Names} {v : Value ℕ} {u : Value Name} → ValueLike ns v u → number v ≡ number u
number_like (int_like k) = refl
number_like (boolean_like b) = refl
number_like null_like = refl
number_like (object_like n x h) = refl

pub truth_like : {ns : Names} {v : Value ℕ} {u : Value Name} → ValueLike ns v u → truth v ≡ truth u
truth_like (int_like k) = refl
truth_like (boolean_like b) = refl
truth_like null_like = refl
truth_like (object_like n x h) = refl

pub text_like : {ns : Names} {v : Value ℕ} {u : Value Name} → ValueLike ns v u → text_of v ≡ text_of u
text_like (int_like k) = refl
text_like (boolean_like true) = refl
text_like (boolean_like false) = refl
text_like null_like = refl
text_like (object_like n x h) = refl

pub int_of : {ns : Names} {j k : ℤ} → j ≡ k → ValueLike ns (Int j) (Int k)
int_of {ns} {j} {k} e = subst (λ (z : ℤ). ValueLike ns (Int j) (Int z)) e (int_like j)

pub boolean_of : {ns : Names} {a b : Bool} → a ≡ b → ValueLike ns (Boolean a) (Boolean b)
boolean_of {ns} {a} {b} e = subst (λ (z : Bool). ValueLike ns (Boolean a) (Boolean z)) e (boolean_like a)

pub slot_like : {ns : Names} {vs : List (Value ℕ)} {us : List (Value Name)} → ValuesLike ns vs us → (x : ℕ) → ValueLike ns (slot_value vs x) (slot_value us x)
slot_like no_values x = null_like
slot_like (more_values h k) zero = h
slot_like (more_values h k) (suc x) = slot_like k x

pub number_at : {ns : Names} {vs : List (Value ℕ)} {us : List (Value Name)} → ValuesLike ns vs us → (x : ℕ)
    → number (slot_value vs x) ≡ number (slot_value us x)
number_at h x = number_like (slot_like h x)

pub set_like : {ns : Names} {vs : List (Value ℕ)} {us : List (Value Name)} {v : Value ℕ} {u : Value Name} → ValuesLike ns vs us → (x : ℕ)
    → ValueLike ns v u → ValuesLike ns (slice_set vs x v) (slice_set us x u)
set_like no_values x h = no_values
set_like (more_values a b) zero h = more_values h b
set_like (more_values a b) (suc x) h = more_values a (set_like b x h)

pub padded_like : {ns : Names} (n : ℕ) {vs : List (Value ℕ)} {us : List (Value Name)} → ValuesLike ns vs us → ValuesLike ns (padded n vs) (padded n us)
padded_like zero h = no_values
padded_like (suc n) no_values = more_values null_like (padded_like n no_values)
padded_like (suc n) (more_values a b) = more_values a (padded_like n b)

pub append_like : {ns : Names} {vs ws : List (Value ℕ)} {us zs : List (Value Name)} → ValuesLike ns vs us → ValuesLike ns ws zs
    → ValuesLike ns (vs ++ ws) (us ++ zs)
append_like no_values k = k
append_like (more_values a b) k = more_values a (append_like b k)

pub reverse_like : {ns : Names} {vs : List (Value ℕ)} {us : List (Value Name)} → ValuesLike ns vs us → ValuesLike ns (reverse vs) (reverse us)
reverse_like no_values = no_values
reverse_like {ns} (more_values {v} {u} {vs} {us} a b) =
    subst (λ (l : List (Value ℕ)). ValuesLike ns l (reverse (u ∷ us))) (sym (reverse-append (v ∷ []) vs))
    (subst (λ (l : List (Value Name)). ValuesLike ns (reverse vs ++ v ∷ []) l) (sym (reverse-append (u ∷ []) us))
    (append_like (reverse_like b) (more_values a no_values)))

pub assigned_alike : {ns : Names} (xs : List ℕ) {vs : List (Value ℕ)} {us : List (Value Name)} → ValuesLike ns vs us
    → LocalsLike ns (assigned xs vs) (assigned xs us)
assigned_alike [] h = no_locals
assigned_alike (x ∷ xs) h = more_locals x (slot_like h x) (assigned_alike xs h)

values_if : {ns : Names} (b : Bool) {vs ws : List (Value ℕ)} {us zs : List (Value Name)} → ValuesLike ns vs us → ValuesLike ns ws zs
    → ValuesLike ns (cond b vs ws) (cond b us zs)
values_if true h k = h
values_if false h k = k

pub copied_like : {ns : Names} (slots : List ℕ) {ls : List (ℕ × Value ℕ)} {ms : List (ℕ × Value Name)} {vs : List (Value ℕ)} {us : List (Value Name)}
    → LocalsLike ns ls ms → ValuesLike ns vs us → ValuesLike ns (copied slots ls vs) (copied slots ms us)
copied_like slots no_locals h = h
copied_like slots (more_locals x a b) h = copied_like slots b (values_if (list_any (λ y. x == y) slots) (set_like h x a) h)

pub part_place_like : {ns : Names} (k : ℕ) (i : ℤ) {vs : List (Value ℕ)} {us : List (Value Name)} → ValuesLike ns vs us → part_place k i vs ≡ part_place k i us
part_place_like k i h =
    let a = number_at h (k + 2) in
    let b = number_at h (k + 1) in
    λ z. cond (int_lt i (pos 0) || not (int_lt i (a z))) None (Some (int_wrapping_add w32 (b z) i))

part_first_like : {ns : Names} (k : ℕ) {vs : List (Value ℕ)} {us : List (Value Name)} → ValuesLike ns vs us → part_first k vs ≡ part_first k us
part_first_like k h =
    let a = number_at h (k + 1) in
    let b = number_at h (k + 2) in
    let c = number_at h (k + 3) in
    let d = number_at h (k + 4) in
    λ z. cond (is_part (b z) (c z) (d z)) (int_wrapping_add w32 (a z) (pos (part_begin (b z) (c z) (d z)))) (pos 0)

part_length_like : {ns : Names} (k : ℕ) {vs : List (Value ℕ)} {us : List (Value Name)} → ValuesLike ns vs us → part_length k vs ≡ part_length k us
part_length_like k h =
    let b = number_at h (k + 2) in
    let c = number_at h (k + 3) in
    let d = number_at h (k + 4) in
    λ z. cond (is_part (b z) (c z) (d z)) (pos (part_begin (b z) (c z) (d z +ℤ pos 1) - part_begin (b z) (c z) (d z))) (pos 0)

pub part_taken_like : {ns : Names} (k : ℕ) {vs : List (Value ℕ)} {us : List (Value Name)} → ValuesLike ns vs us
    → ValuesLike ns (part_taken k vs) (part_taken k us)
part_taken_like k h = set_like (set_like h (k + 1) (int_of (part_first_like k h))) (k + 2) (int_of (part_length_like k h))

pub numbered_like : {ns : Names} (x : ℕ) (start : ℤ) (i : ℕ) {vs : List (Value ℕ)} {us : List (Value Name)} → ValuesLike ns vs us
    → ValuesLike ns (numbered x start i vs) (numbered x start i us)
numbered_like x start i h = set_like h x (int_like (int_wrapping_add w32 start (pos i)))

-- two numbers of objects are one where their names are
same_test : {ns : Names} → Distinct ns → (n m : ℕ) (x y : Name) → slice_get ns n ≡ Some x → slice_get ns m ≡ Some y → (n == m) ≡ same_name x y
same_test {ns} d n m x y h k = go (n == m) refl
  where
    go : (b : Bool) → (n == m) ≡ b → (n == m) ≡ same_name x y
    go true e =
        let nm : n ≡ m = eqb-true n m e in
        let s : Some x ≡ Some y = sym h ∙ ap (λ z. slice_get ns z) nm ∙ k in
        let xy : x ≡ y = cc in
        e ∙ sym (subst (λ z. same_name x z ≡ true) xy (and_from _ _ (test_same x.maker x.maker refl) (eq-eqb x.count x.count refl)))
    go false e = e ∙ sym (false_from_ne_true _ (λ t. apart (same_name_eq x y t)))
      where
        apart : x ≡ y → ⊥
        apart xy =
            let nm : n ≡ m = d.one n m x h (k ∙ ap (λ z. Some z) (sym xy)) in
            let s : true ≡ false = sym (eq-eqb n m nm) ∙ e in
            cc

same_value_like : {ns : Names} → Distinct ns → {v w : Value ℕ} {u z : Value Name} → ValueLike ns v u → ValueLike ns w z
    → same_value (λ n m. n == m) v w ≡ same_value same_name u z
same_value_like d (int_like j) (int_like k) = refl
same_value_like d (int_like j) (boolean_like b) = refl
same_value_like d (int_like j) null_like = refl
same_value_like d (int_like j) (object_like n x h) = refl
same_value_like d (boolean_like a) (int_like k) = refl
same_value_like d (boolean_like a) (boolean_like b) = refl
same_value_like d (boolean_like a) null_like = refl
same_value_like d (boolean_like a) (object_like n x h) = refl
same_value_like d null_like (int_like k) = refl
same_value_like d null_like (boolean_like b) = refl
same_value_like d null_like null_like = refl
same_value_like d null_like (object_like n x h) = refl
same_value_like d (object_like n x h) (int_like k) = refl
same_value_like d (object_like n x h) (boolean_like b) = refl
same_value_like d (object_like n x h) null_like = refl
same_value_like d (object_like n x h) (object_like m y k) = same_test d n m x y h k

pub data MaybeLike (ns : Names) : Option (Value ℕ) → Option (Value Name) → Type 0 where
  none_like : MaybeLike ns None None
  some_like : {v : Value ℕ} {u : Value Name} → ValueLike ns v u → MaybeLike ns (Some v) (Some u)

pub operated_like : {ns : Names} → Distinct ns → (o : BinaryOp) {v w : Value ℕ} {u z : Value Name} → ValueLike ns v u → ValueLike ns w z
    → MaybeLike ns (operated (λ n m. n == m) o v w) (operated same_name o u z)
operated_like {ns} d o {v} {w} {u} {z} h k = like (operated_alike _ _ o v w u z (number_like h) (number_like k) (same_value_like d h k))
  where
    like : {v : Option (Value ℕ)} {u : Option (Value Name)} → Alike v u → MaybeLike ns v u
    like neither = none_like
    like (ints e) = some_like (int_of e)
    like (booleans e) = some_like (boolean_of e)

pub unary_like : {ns : Names} (o : UnaryOp) {v : Value ℕ} {u : Value Name} → ValueLike ns v u → ValueLike ns (unary o v) (unary o u)
unary_like Negate h = int_of (ap (int_wrapping_neg w32) (number_like h))
unary_like Not h = boolean_of (ap not (truth_like h))

-- answers
pub read_alike : {ns : Names} {a : Answer ℕ Counted} {b : Answer Name LocalRegion} → AnswerLike ns a b → MaybeLike ns (value_read a) (value_read b)
read_alike went_like = some_like null_like
read_alike (got_like h) = some_like h
read_alike out_like = none_like
read_alike (class_like c h) = some_like null_like
read_alike (length_like len) = some_like null_like
read_alike (named_like n x h) = some_like null_like
read_alike (joined_like h) = some_like null_like
read_alike (fell_like trap p) = some_like null_like

pub out_alike : {ns : Names} {a : Answer ℕ Counted} {b : Answer Name LocalRegion} → AnswerLike ns a b → is_out a ≡ is_out b
out_alike went_like = refl
out_alike (got_like h) = refl
out_alike out_like = refl
out_alike (class_like c h) = refl
out_alike (length_like len) = refl
out_alike (named_like n x h) = refl
out_alike (joined_like h) = refl
out_alike (fell_like trap p) = refl

pub length_alike : {ns : Names} {a : Answer ℕ Counted} {b : Answer Name LocalRegion} → AnswerLike ns a b → length_seen a ≡ length_seen b
length_alike went_like = refl
length_alike (got_like h) = refl
length_alike out_like = refl
length_alike (class_like c h) = refl
length_alike (length_like len) = refl
length_alike (named_like n x h) = refl
length_alike (joined_like h) = refl
length_alike (fell_like trap p) = refl

pub name_alike : {ns : Names} {a : Answer ℕ Counted} {b : Answer Name LocalRegion} → AnswerLike ns a b → ValueLike ns (name_made a) (name_made b)
name_alike went_like = null_like
name_alike (got_like h) = null_like
name_alike out_like = null_like
name_alike (class_like c h) = null_like
name_alike (length_like len) = null_like
name_alike (named_like n x h) = object_like n x h
name_alike (joined_like h) = null_like
name_alike (fell_like trap p) = null_like

-- a class with its region arguments
pub data SeenLike : ℕ × List (Region Counted) → ℕ × List (Region LocalRegion) → Type 0 where
  seen_like : (c : ℕ) {rs : List (Region Counted)} {qs : List (Region LocalRegion)} → RegionsLike rs qs → SeenLike (c, rs) (c, qs)

seen_if : (b : Bool) {s r : ℕ × List (Region Counted)} {t q : ℕ × List (Region LocalRegion)} → SeenLike s t → SeenLike r q → SeenLike (cond b s r) (cond b t q)
seen_if true h k = h
seen_if false h k = k

pub entered_alike : {ns : Names} (parent : ℕ → Option PlainParent) (classes c : ℕ) {a : Answer ℕ Counted} {b : Answer Name LocalRegion} → AnswerLike ns a b
    → SeenLike (class_entered parent classes c (class_seen a)) (class_entered parent classes c (class_seen b))
entered_alike parent classes c went_like = seen_like c no_regions
entered_alike parent classes c (got_like h) = seen_like c no_regions
entered_alike parent classes c out_like = seen_like c no_regions
entered_alike parent classes c (class_like k h) = seen_if (is_below parent classes k c) (seen_like k h) (seen_like c h)
entered_alike parent classes c (length_like len) = seen_like c no_regions
entered_alike parent classes c (named_like n x h) = seen_like c no_regions
entered_alike parent classes c (joined_like h) = seen_like c no_regions
entered_alike parent classes c (fell_like trap p) = seen_like c no_regions

-- regions
length_at : {M : Type 0} (rs : List (Region M)) (p : ℕ) → length (slice_index_or rs p []) ≡ slice_index_or (map length rs) p 0
length_at [] p = refl
length_at (r ∷ rs) zero = refl
length_at (r ∷ rs) (suc p) = length_at rs p

head_length : (rs : List (Region Counted)) (qs : List (Region LocalRegion)) → RegionsLike rs qs → (h : Head)
    → length (head_region rs h) ≡ length (head_region qs h)
head_length rs qs e head.Root = refl
head_length rs qs e (head.Param p) = length_at rs p ∙ ap (λ l. slice_index_or l p 0) e.lengths ∙ sym (length_at qs p)

module _ (names : Naming ℕ Counted) (others : Naming Name LocalRegion) where
  pub concrete_length : (f : Around ℕ Counted) (g : Around Name LocalRegion) → RegionsLike f.regions g.regions → (a : Rpl)
      → length (concrete names f a) ≡ length (concrete others g a)
  concrete_length f g e a =
      length-append (head_region f.regions a.head) (map (part_of names f) a.elems)
      ∙ ap₂ (λ m n. m + n) (head_length f.regions g.regions e a.head) (length-map a.elems (part_of names f) ∙ sym (length-map a.elems (part_of others g)))
      ∙ sym (length-append (head_region g.regions a.head) (map (part_of others g) a.elems))

  pub concretes : (f : Around ℕ Counted) (g : Around Name LocalRegion) → RegionsLike f.regions g.regions → (as' : List Rpl)
      → RegionsLike (map (concrete names f) as') (map (concrete others g) as')
  concretes f g e [] = no_regions
  concretes f g e (a ∷ as') = let h = concrete_length f g e a in let t = concretes f g e as' in record { lengths = λ z. h z ∷ t.lengths z }

  handed : (rs : List (Region Counted)) (qs : List (Region LocalRegion)) → RegionsLike rs qs → (as' : List Rpl)
      → RegionsLike (handed_up names rs as') (handed_up others qs as')
  handed rs qs e [] = no_regions
  handed rs qs e (a ∷ as') =
      let h = concrete_length (record { values = []; regions = rs; locals = [] }) (record { values = []; regions = qs; locals = [] }) e a in
      let t = handed rs qs e as' in
      record { lengths = λ z. h z ∷ t.lengths z }

  pub regions_above_like : (parent : ℕ → Option PlainParent) (k c : ℕ) (rs : List (Region Counted)) (qs : List (Region LocalRegion)) → RegionsLike rs qs
      → (d : ℕ) → RegionsLike (regions_above names parent k c rs d) (regions_above others parent k c qs d)
  regions_above_like parent zero c rs qs e d = e
  regions_above_like parent (suc k) c rs qs e d =
      go (c == d) (λ p. regions_above_like parent k p.class (handed_up names rs p.args) (handed_up others qs p.args) (handed rs qs e p.args) d)
    where
      at : (o : Option PlainParent) → ((p : PlainParent)
          → RegionsLike (regions_above names parent k p.class (handed_up names rs p.args) d) (regions_above others parent k p.class
          (handed_up others qs p.args) d))
          → RegionsLike (elim o [ None ↦ rs | Some p ↦ regions_above names parent k p.class (handed_up names rs p.args) d ])
          (elim o [ None ↦ qs | Some p ↦ regions_above others parent k p.class (handed_up others qs p.args) d ])
      at None rec = e
      at (Some p) rec = rec p

      go : (b : Bool) → ((p : PlainParent)
          → RegionsLike (regions_above names parent k p.class (handed_up names rs p.args) d) (regions_above others parent k p.class
          (handed_up others qs p.args) d))
          → RegionsLike (cond b rs (elim (parent c) [ None ↦ rs | Some p ↦ regions_above names parent k p.class (handed_up names rs p.args) d ]))
          (cond b qs (elim (parent c) [ None ↦ qs | Some p ↦ regions_above others parent k p.class (handed_up others qs p.args) d ]))
      go true rec = e
      go false rec = at (parent c) rec

pub regions_append : (rs ps : List (Region Counted)) (qs os : List (Region LocalRegion)) → RegionsLike rs qs → RegionsLike ps os
    → RegionsLike (rs ++ ps) (qs ++ os)
regions_append rs ps qs os a b = record { lengths = map_append rs ps ∙ ap₂ (λ x y. x ++ y) a.lengths b.lengths ∙ sym (map_append qs os) }
  where
    map_append : {M : Type 0} (xs ys : List (Region M)) → map length (xs ++ ys) ≡ map length xs ++ map length ys
    map_append [] ys = refl
    map_append (x ∷ xs) ys = ap (λ l. length x ∷ l) (map_append xs ys)

some_long_is : {M : Type 0} (rs : List (Region M)) → some_long rs ≡ list_any (λ n. nat_lt most_parts n) (map length rs)
some_long_is [] = refl
some_long_is (r ∷ rs) = ap (λ b. is_long r || b) (some_long_is rs)

pub some_long_like : (rs : List (Region Counted)) (qs : List (Region LocalRegion)) → RegionsLike rs qs → some_long rs ≡ some_long qs
some_long_like rs qs e = some_long_is rs ∙ ap (λ l. list_any (λ n. nat_lt most_parts n) l) e.lengths ∙ sym (some_long_is qs)

-- what a join brings
pub brought_alike : {ns : Names} {a : Answer ℕ Counted} {b : Answer Name LocalRegion} → AnswerLike ns a b → BroughtLike ns (brought a) (brought b)
brought_alike went_like = back_like no_locals
brought_alike (got_like h) = back_like no_locals
brought_alike out_like = back_like no_locals
brought_alike (class_like c h) = back_like no_locals
brought_alike (length_like len) = back_like no_locals
brought_alike (named_like n x h) = back_like no_locals
brought_alike (joined_like h) = back_like h
brought_alike (fell_like trap p) = trap_like trap p

-- how branches join
trap_alike : {ns : Names} {x : Ending ℕ} {y : Ending Name} (o : Option (Trap × Place)) → EndingLike ns x y → trap_of x o ≡ trap_of y o
trap_alike o (returned_like v) = refl
trap_alike o (assigned_like v) = refl
trap_alike o (trapped_like trap p) = refl

first_trap_alike : {ns : Names} {xs : List (Ending ℕ)} {ys : List (Ending Name)} → EndingsLike ns xs ys → first_trap xs ≡ first_trap ys
first_trap_alike no_endings = refl
first_trap_alike (more_endings {x} {y} {xs} {ys} h k) = ap (λ o. trap_of x o) (first_trap_alike k) ∙ trap_alike (first_trap ys) h

locals_append : {ns : Names} {ls ks : List (ℕ × Value ℕ)} {ms os : List (ℕ × Value Name)} → LocalsLike ns ls ms → LocalsLike ns ks os
    → LocalsLike ns (ls ++ ks) (ms ++ os)
locals_append no_locals k = k
locals_append (more_locals x a b) k = more_locals x a (locals_append b k)

locals_alike : {ns : Names} {x : Ending ℕ} {y : Ending Name} → EndingLike ns x y → LocalsLike ns (locals_of x) (locals_of y)
locals_alike (returned_like v) = no_locals
locals_alike (assigned_like v) = v
locals_alike (trapped_like trap p) = no_locals

all_locals_alike : {ns : Names} {xs : List (Ending ℕ)} {ys : List (Ending Name)} → EndingsLike ns xs ys → LocalsLike ns (all_locals xs) (all_locals ys)
all_locals_alike no_endings = no_locals
all_locals_alike (more_endings h k) = locals_append (locals_alike h) (all_locals_alike k)

pub answer_alike : {ns : Names} {xs : List (Ending ℕ)} {ys : List (Ending Name)} → EndingsLike ns xs ys
    → AnswerLike ns (joined {M = Counted} xs) (joined {M = LocalRegion} ys)
answer_alike {ns} {xs} {ys} h =
    subst (λ (o : Option (Trap × Place)). AnswerLike ns (joined {M = Counted} xs) (joined_or {M = LocalRegion} o (all_locals ys))) (first_trap_alike h)
    (go (first_trap xs))
  where
    go : (o : Option (Trap × Place)) → AnswerLike ns (joined_or {M = Counted} o (all_locals xs)) (joined_or {M = LocalRegion} o (all_locals ys))
    go None = joined_like (all_locals_alike h)
    go (Some fell) = fell_like fell.0 fell.1

pub joined_alike : {ns : Names} {xs : List (Ending ℕ)} {ys : List (Ending Name)} → EndingsLike ns xs ys
    → BroughtLike ns (brought {M = Counted} (joined xs)) (brought {M = LocalRegion} (joined ys))
joined_alike h = brought_alike (answer_alike h)

-- how tasks end
pub ended_alike : {c : ℕ} {ns : Names} {j k : Work} {r : Result ℕ Counted} {s : Result Name LocalRegion} → j ≡ k → ResultLike c ns r s
    → EndingLike ns (ended j r) (ended k s)
ended_alike {c} {ns} {j} {k} {r} {s} e h = subst (λ (z : Work). EndingLike ns (ended j r) (ended z s)) e (go h)
  where
    go : {r : Result ℕ Counted} {s : Result Name LocalRegion} → ResultLike c ns r s → EndingLike ns (ended j r) (ended j s)
    go (returns_like d v) = returned_like v
    go (goes_on_like {f = f} {g = g} v w) = at (j.is_root)
      where
        at : (b : Bool) → EndingLike ns (if b then Returned none else Assigned (assigned j.copies f.values)) (if b then Returned none else Assigned
            (assigned j.copies g.values))
        at true = returned_like null_like
        at false = assigned_like (assigned_alike j.copies w.values)
