-- What is read off like frames and answers is the same, or like.
use Rattle.std.proofs.Common.{◌≡◌, ℕ, zero, suc, ℤ, Bool, true, false, cond, ◌==◌, ◌||◌, List, [], ◌∷◌, map, refl, ap, ap₂, subst, Option, Some, None}
use Rattle.std.specs.Prelude.{slice_index_or, slice_set, nat_lt}
use Rattle.lang_base.specs.declared.effect.Effect.{Effect as PathEffect}
use Rattle.lang_base.specs.declared.elems.Elem.{Elem}
use Rattle.lang_base.specs.declared.elems.Elem.TheVariants as elem
use Rattle.lang_base.specs.declared.elems.Index.{Index}
use Rattle.lang_base.specs.declared.elems.Index.TheVariants as index
use Rattle.lang_base.specs.declared.region.Head.{Head}
use Rattle.lang_base.specs.declared.region.Head.TheVariants as head
use Rattle.lang_base.specs.declared.region.Rpl.{Rpl}
use Rattle.lang_typed.specs.Plain.{PlainParent}
use Rattle.lang_meaning.specs.Values.{Value, Number, Region}
use Rattle.lang_meaning.specs.Actions.{Frame, Answer}
use Rattle.lang_meaning.specs.Counts.{value_read, is_out, length_seen, name_made, class_seen, class_entered, is_below, brought}
use Rattle.lang_meaning.specs.Regions.{Around, around, index_part, part_of, head_region, concrete, concrete_effect, is_long, some_long, most_parts, unmade_from, handed_up, regions_above}
use Rattle.runs_theory.specs.Objects.{Path, Name, LocalRegion}
use Rattle.runs_program.specs.Steps.{named_by}
use Rattle.exec_task.specs.Names.{names_of}
use Rattle.runs_elision.proofs.Worlds.{ValuesLike, no_values, ValueLike, null_like, object_like, BroughtLike, back_like, trap_like, no_locals}
use Rattle.runs_elision.proofs.Counts.{number_at, MaybeLike, none_like, some_like}
use Rattle.runs_simulation.proofs.alike.Sights.{Sight, Each, each_none, each_more, each_append, each_length, unmade_like, PartLike, a_name, a_number, a_local, own_index, any_index, any_parts}
use Rattle.runs_simulation.proofs.alike.Sights.{RegionLike, RegionsLike, LocalRegionsLike, EffectsLike, AroundLike, FrameLike}
use Rattle.runs_simulation.proofs.alike.Sights.{AnswerLike, went_like, got_like, out_like, class_like, length_like, named_like, joined_like, fell_like}

-- lists that are like, at a place, or with one element set
pub each_at : {A B : Type 0} {L : A → B → Type 0} {xs : List A} {ys : List B} {d : A} {e : B} → Each L xs ys → (n : ℕ) → L d e
    → L (slice_index_or xs n d) (slice_index_or ys n e)
each_at each_none n h = h
each_at (each_more a b) zero h = a
each_at (each_more a b) (suc n) h = each_at b n h

pub each_set : {A B : Type 0} {L : A → B → Type 0} {xs : List A} {ys : List B} {x : A} {y : B} → Each L xs ys → (n : ℕ) → L x y
    → Each L (slice_set xs n x) (slice_set ys n y)
each_set each_none n h = each_none
each_set (each_more a b) zero h = each_more h b
each_set (each_more a b) (suc n) h = each_more a (each_set b n h)

pub each_map : {A B C : Type 0} {L : A → B → Type 0} (f : C → A) (g : C → B) → ((x : C) → L (f x) (g x)) → (xs : List C) → Each L (map f xs) (map g xs)
each_map f g h [] = each_none
each_map f g h (x ∷ xs) = each_more (h x) (each_map f g h xs)

number_part : {w : Sight} {j k : ℤ} → j ≡ k → PartLike w (Number j) (Number k)
number_part {w} {j} {k} e = subst (λ (z : ℤ). PartLike w (Number j) (Number z)) e (a_number j)

index_part_like : {w : Sight} {vs : List (Value ℕ)} {us : List (Value Name)} → ValuesLike w.names vs us → (x : Index)
    → PartLike w (index_part vs x) (index_part us x)
index_part_like h (index.Literal k) = a_number k
index_part_like h (index.Variable x) = number_part (number_at h x)
index_part_like h (index.Renamed x) = number_part (number_at h x)
index_part_like h (index.Own d) = own_index

-- regions, by the names of a task in a machine and in a run
module _ (k : ℕ) (p : Path) where
  part_like : {w : Sight} {f : Around ℕ (ℕ × ℕ)} {g : Around Name LocalRegion} → AroundLike w f g → (x : Elem)
      → PartLike w (part_of (names_of k) f x) (part_of (named_by p) g x)
  part_like h (elem.Name n) = a_name n
  part_like h (elem.At i) = index_part_like h.values i
  part_like h elem.Any = any_index
  part_like h elem.Star = any_parts
  part_like h (elem.Local r n) = a_local (each_at h.locals r (unmade_like r))

  head_like : {w : Sight} {rs : List (Region (ℕ × ℕ))} {qs : List (Region LocalRegion)} → RegionsLike w rs qs → (h : Head)
      → RegionLike w (head_region rs h) (head_region qs h)
  head_like e head.Root = each_none
  head_like e (head.Param x) = each_at e x each_none

  pub concrete_in : {w : Sight} {f : Around ℕ (ℕ × ℕ)} {g : Around Name LocalRegion} → AroundLike w f g → (a : Rpl)
      → RegionLike w (concrete (names_of k) f a) (concrete (named_by p) g a)
  concrete_in h a = each_append (head_like h.regions a.head) (each_map _ _ (λ x. part_like h x) a.elems)

  pub around_like : {w : Sight} {f : Frame ℕ (ℕ × ℕ)} {g : Frame Name LocalRegion} → FrameLike w f g → AroundLike w (around f) (around g)
  around_like h = record { values = h.values; regions = h.regions; locals = h.locals }

  pub concrete_like : {w : Sight} {f : Frame ℕ (ℕ × ℕ)} {g : Frame Name LocalRegion} → FrameLike w f g → (a : Rpl)
      → RegionLike w (concrete (names_of k) (around f) a) (concrete (named_by p) (around g) a)
  concrete_like h a = concrete_in (around_like h) a

  pub concretes_like : {w : Sight} {f : Frame ℕ (ℕ × ℕ)} {g : Frame Name LocalRegion} → FrameLike w f g → (as' : List Rpl)
      → RegionsLike w (map (concrete (names_of k) (around f)) as') (map (concrete (named_by p) (around g)) as')
  concretes_like h as' = each_map _ _ (λ a. concrete_like h a) as'

  pub effects_like : {w : Sight} {f : Frame ℕ (ℕ × ℕ)} {g : Frame Name LocalRegion} → FrameLike w f g → (es : List PathEffect)
      → EffectsLike w (map (concrete_effect (names_of k) (around f)) es) (map (concrete_effect (named_by p) (around g)) es)
  effects_like h es = each_map _ _ (λ e. record { access = refl; region = concrete_like h e.rpl }) es

  pub unmade_from_like : {w : Sight} (r n : ℕ) → LocalRegionsLike w (unmade_from (names_of k) r n) (unmade_from (named_by p) r n)
  unmade_from_like r zero = each_none
  unmade_from_like r (suc n) = each_more (unmade_like r) (unmade_from_like (suc r) n)

  handed_like : {w : Sight} {rs : List (Region (ℕ × ℕ))} {qs : List (Region LocalRegion)} → RegionsLike w rs qs → (as' : List Rpl)
      → RegionsLike w (handed_up (names_of k) rs as') (handed_up (named_by p) qs as')
  handed_like e as' = each_map _ _ (λ a. concrete_in (record { values = no_values; regions = e; locals = each_none }) a) as'

  abbrev Above : Sight → (ℕ → Option PlainParent) → ℕ → List (Region (ℕ × ℕ)) → List (Region LocalRegion) → ℕ → PlainParent → Type 0
  Above w parent n rs qs d x =
      RegionsLike w (regions_above (names_of k) parent n x.class (handed_up (names_of k) rs x.args) d)
      (regions_above (named_by p) parent n x.class (handed_up (named_by p) qs x.args) d)

  pub regions_above_like : {w : Sight} (parent : ℕ → Option PlainParent) (n c : ℕ) {rs : List (Region (ℕ × ℕ))} {qs : List (Region LocalRegion)}
      → RegionsLike w rs qs → (d : ℕ) → RegionsLike w (regions_above (names_of k) parent n c rs d) (regions_above (named_by p) parent n c qs d)
  regions_above_like parent zero c e d = e
  regions_above_like {w} parent (suc n) c {rs} {qs} e d =
      go (c == d) (parent c) (λ x. regions_above_like parent n x.class (handed_like e x.args) d)
    where
      up : (o : Option PlainParent) → ((x : PlainParent) → Above w parent n rs qs d x)
          → RegionsLike w (elim o as (λ o. List (Region (ℕ × ℕ))) [ None ↦ rs | Some x ↦ regions_above (names_of k) parent n x.class (handed_up (names_of k) rs x.args) d ])
          (elim o as (λ o. List (Region LocalRegion)) [ None ↦ qs | Some x ↦ regions_above (named_by p) parent n x.class (handed_up (named_by p) qs x.args) d ])
      up None rec = e
      up (Some x) rec = rec x

      go : (b : Bool) (o : Option PlainParent) → ((x : PlainParent) → Above w parent n rs qs d x) → RegionsLike w
          (cond b rs (elim o as (λ o. List (Region (ℕ × ℕ))) [ None ↦ rs | Some x ↦ regions_above (names_of k) parent n x.class (handed_up (names_of k) rs x.args) d ]))
          (cond b qs (elim o as (λ o. List (Region LocalRegion)) [ None ↦ qs | Some x ↦ regions_above (named_by p) parent n x.class (handed_up (named_by p) qs x.args) d ]))
      go true o rec = e
      go false o rec = up o rec

pub is_long_like : {w : Sight} {r : Region (ℕ × ℕ)} {q : Region LocalRegion} → RegionLike w r q → is_long r ≡ is_long q
is_long_like h = ap (λ n. nat_lt most_parts n) (each_length h)

pub some_long_like : {w : Sight} {rs : List (Region (ℕ × ℕ))} {qs : List (Region LocalRegion)} → RegionsLike w rs qs → some_long rs ≡ some_long qs
some_long_like each_none = refl
some_long_like (each_more h t) = ap₂ (λ a b. a || b) (is_long_like h) (some_long_like t)

-- answers
pub read_like : {w : Sight} {a : Answer ℕ (ℕ × ℕ)} {b : Answer Name LocalRegion} → AnswerLike w a b → MaybeLike w.names (value_read a) (value_read b)
read_like went_like = some_like null_like
read_like (got_like h) = some_like h
read_like out_like = none_like
read_like (class_like c h) = some_like null_like
read_like (length_like len) = some_like null_like
read_like (named_like n x h) = some_like null_like
read_like (joined_like h) = some_like null_like
read_like (fell_like trap p) = some_like null_like

pub is_out_like : {w : Sight} {a : Answer ℕ (ℕ × ℕ)} {b : Answer Name LocalRegion} → AnswerLike w a b → is_out a ≡ is_out b
is_out_like went_like = refl
is_out_like (got_like h) = refl
is_out_like out_like = refl
is_out_like (class_like c h) = refl
is_out_like (length_like len) = refl
is_out_like (named_like n x h) = refl
is_out_like (joined_like h) = refl
is_out_like (fell_like trap p) = refl

pub length_seen_like : {w : Sight} {a : Answer ℕ (ℕ × ℕ)} {b : Answer Name LocalRegion} → AnswerLike w a b → length_seen a ≡ length_seen b
length_seen_like went_like = refl
length_seen_like (got_like h) = refl
length_seen_like out_like = refl
length_seen_like (class_like c h) = refl
length_seen_like (length_like len) = refl
length_seen_like (named_like n x h) = refl
length_seen_like (joined_like h) = refl
length_seen_like (fell_like trap p) = refl

pub name_made_like : {w : Sight} {a : Answer ℕ (ℕ × ℕ)} {b : Answer Name LocalRegion} → AnswerLike w a b
    → ValueLike w.names (name_made a) (name_made b)
name_made_like went_like = null_like
name_made_like (got_like h) = null_like
name_made_like out_like = null_like
name_made_like (class_like c h) = null_like
name_made_like (length_like len) = null_like
name_made_like (named_like n x h) = object_like n x h
name_made_like (joined_like h) = null_like
name_made_like (fell_like trap p) = null_like

pub brought_like : {w : Sight} {a : Answer ℕ (ℕ × ℕ)} {b : Answer Name LocalRegion} → AnswerLike w a b → BroughtLike w.names (brought a) (brought b)
brought_like went_like = back_like no_locals
brought_like (got_like h) = back_like no_locals
brought_like out_like = back_like no_locals
brought_like (class_like c h) = back_like no_locals
brought_like (length_like len) = back_like no_locals
brought_like (named_like n x h) = back_like no_locals
brought_like (joined_like h) = back_like h
brought_like (fell_like trap p) = trap_like trap p

-- a class with its region arguments
pub record SeenLike (w : Sight) (a : ℕ × List (Region (ℕ × ℕ))) (b : ℕ × List (Region LocalRegion)) : Type 0 where
  pub class : a.0 ≡ b.0
  pub regions : RegionsLike w a.1 b.1

seen_if : {w : Sight} (t : Bool) {a b : ℕ × List (Region (ℕ × ℕ))} {c d : ℕ × List (Region LocalRegion)} → SeenLike w a c → SeenLike w b d
    → SeenLike w (cond t a b) (cond t c d)
seen_if true h k = h
seen_if false h k = k

pub class_entered_like : {w : Sight} (parent : ℕ → Option PlainParent) (classes c : ℕ) {a : Answer ℕ (ℕ × ℕ)} {b : Answer Name LocalRegion}
    → AnswerLike w a b → SeenLike w (class_entered parent classes c (class_seen a)) (class_entered parent classes c (class_seen b))
class_entered_like parent classes c went_like = record { class = refl; regions = each_none }
class_entered_like parent classes c (got_like h) = record { class = refl; regions = each_none }
class_entered_like parent classes c out_like = record { class = refl; regions = each_none }
class_entered_like parent classes c (class_like k h) =
    seen_if (is_below parent classes k c) (record { class = refl; regions = h }) (record { class = refl; regions = h })
class_entered_like parent classes c (length_like len) = record { class = refl; regions = each_none }
class_entered_like parent classes c (named_like n x h) = record { class = refl; regions = each_none }
class_entered_like parent classes c (joined_like h) = record { class = refl; regions = each_none }
class_entered_like parent classes c (fell_like trap p) = record { class = refl; regions = each_none }
