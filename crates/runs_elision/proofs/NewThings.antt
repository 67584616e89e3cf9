-- A new object or array, in the heap of the elision and in the run.
use Rattle.std.proofs.Common.{◌≡◌, ℕ, zero, suc, ◌<◌, ◌≤◌, ◌⊎◌, inl, inr, ⊎_elim, pos, Bool, true, false, List, [], ◌∷◌, ◌++◌, length}
use Rattle.std.proofs.Common.{refl, sym, ap, ◌∙◌, subst, arith, Option, Some, None, slice_get, append_assoc, nat_lt}
use Rattle.std.proofs.Common.{true≢false}
use Rattle.std.specs.Prelude.{slice_index_or, replicate, if◌then◌else◌}
use Rattle.std.proofs.lemmas.Bool.{ltb-true, lt-ltb, cases_lt}
use Rattle.std.proofs.lemmas.Option.{slice_get_past, slice_get_within, slice_get-get_or}
use Rattle.lang_meaning.specs.Elision.{held, Store}
use Rattle.runs_theory.specs.Actions.{Do, Named, New}
use Rattle.runs_theory.specs.Actions.{Program}
use Rattle.runs_theory.specs.Objects.{An_array, An_object, Cell, Name, Path, Thing, Value, first_value, Null, or_else, size, slot_of}
use Rattle.runs_theory.specs.Runs.{Event, Run, at_start, made, made_by, mine}
use Rattle.runs_theory.specs.Runs.{thing_of, things, written_by}
use Rattle.runs_theory.proofs.events.Mine.{mine_same}
use Rattle.runs_elision.proofs.Worlds.{Names, Distinct, Later, ValuesLike, no_values, more_values}
use Rattle.runs_elision.proofs.Worlds.{thing_later as thing_like_later, ThingLike, an_object_like, an_array_like}
use Rattle.runs_elision.proofs.Counts.{MaybeLike, none_like, some_like}
use Rattle.runs_elision.proofs.Memory.{ThingIn, ValueIn, Stands, Holds, maybe_later, cell_value, last_quiet, stands_quiet, stands_later}
use Rattle.runs_elision.proofs.Writes.{last_there, snoc_cases}

-- a new object or array
abbrev pub first_cell : Thing → Option ℕ → Option Value
first_cell t None = None
first_cell t (Some k) = Some (first_value t k)

fields_like : {ns : Names} {vs : List ValueIn} {us : List Value} → ValuesLike ns vs us → (k : ℕ) → MaybeLike ns (slice_get vs k) (slice_get us k)
fields_like no_values k = none_like
fields_like (more_values a b) zero = some_like a
fields_like (more_values a b) (suc k) = fields_like b k

replicate_there : {A : Type 0} (n : ℕ) (x : A) (k : ℕ) → k < n → slice_get (replicate n x) k ≡ Some x
replicate_there zero x k l = absurd (omega arith)
replicate_there (suc n) x zero l = refl
replicate_there (suc n) x (suc k) l = replicate_there n x k (omega arith)

replicate_past : {A : Type 0} (n : ℕ) (x : A) (k : ℕ) → n ≤ k → slice_get (replicate n x) k ≡ None
replicate_past zero x k l = refl
replicate_past (suc n) x zero l = absurd (omega arith)
replicate_past (suc n) x (suc k) l = replicate_past n x k (omega arith)

pub held_like : {ns : Names} {t : ThingIn} {s : Thing} → ThingLike ns t s → (k : ℕ)
    → MaybeLike ns (slice_get (held t).values k) (first_cell s (slot_of (pos k) (size s)))
held_like {ns} (an_object_like c {rs} {qs} {vs} {us} r h) k = go (nat_lt k (length us)) refl (slice_get us k) refl (fields_like h k)
  where
    go : (b : Bool) → nat_lt k (length us) ≡ b → (o : Option Value) → slice_get us k ≡ o → MaybeLike ns (slice_get vs k) o
        → MaybeLike ns (slice_get vs k) (first_cell (An_object c qs us) (if nat_lt k (length us) then Some k else None))
    go true e (Some u) g m = subst (λ (r : Option Value). MaybeLike ns (slice_get vs k) r)
        (sym (ap (λ b. first_cell (An_object c qs us) (if b then Some k else None)) e ∙ ap (λ o. Some (or_else o Null)) g)) m
    go true e None g m = absurd (let l = ltb-true k (length us) e in let z : None ≡ Some (slice_index_or us k Null) = sym g
        ∙ slice_get-get_or us k Null l in cc)
    go false e (Some u) g m = absurd (let l = slice_get_within us k u g in true≢false (sym (lt-ltb k (length us) l) ∙ e))
    go false e None g m = subst (λ (r : Option Value). MaybeLike ns (slice_get vs k) r) (sym (ap (λ b. first_cell (An_object c qs us)
        (if b then Some k else None)) e)) m
held_like {ns} (an_array_like {r} {q} len {v} {u} h) k = go (nat_lt k len) refl
  where
    go : (b : Bool) → nat_lt k len ≡ b → MaybeLike ns (slice_get (replicate len v) k) (first_cell (An_array q len u) (if nat_lt k len then Some k else None))
    go true e =
        subst (λ (o : Option ValueIn). MaybeLike ns o (first_cell (An_array q len u) (if nat_lt k len then Some k else None)))
        (sym (replicate_there len v k (ltb-true k len e)))
        (subst (λ (r : Option Value). MaybeLike ns (Some v) r) (sym (ap (λ b. first_cell (An_array q len u) (if b then Some k else None)) e)) (some_like h))
    go false e =
        subst (λ (o : Option ValueIn). MaybeLike ns o (first_cell (An_array q len u) (if nat_lt k len then Some k else None)))
        (sym (replicate_past len v k (⊎_elim (λ l. absurd (true≢false (sym (lt-ltb k len l) ∙ e))) (λ l. l) (cases_lt k len))))
        (subst (λ (r : Option Value). MaybeLike ns None r) (sym (ap (λ b. first_cell (An_array q len u) (if b then Some k else None)) e)) none_like)

pub held_thing : {ns : Names} {t : ThingIn} {s : Thing} → ThingLike ns t s → ThingLike ns (held t).thing s
held_thing (an_object_like c r v) = an_object_like c r v
held_thing (an_array_like len v) = an_array_like len v

pub things_step : (e : Event) (es : Run) → things (e ∷ es) ≡ things es ++ made_by e.act
unfolding things
things_step e es = refl

module _ (P : Program) {R : Run} {ns : Names} {since : ℕ} {w : Store} (h : Holds P R ns since w) (p : Path) {t : ThingIn} {s : Thing} (c : Bool)
    (like : ThingLike ns t s)
    (ticks : ℕ) where
  abbrev pub name : Name
  name = record { maker = p; count = length (made P R p) }

  abbrev pub newly : Event
  newly = record { path = p; ticks = ticks; act = Do (New s c); ans = Named name }

  abbrev pub names_now : Names
  names_now = ns ++ name ∷ []

  has_none : thing_of P R name ≡ None
  has_none = slice_get_past (made P R p) (length (made P R p)) (omega arith)

  made_now : made P (newly ∷ R) p ≡ made P R p ++ s ∷ []
  made_now = ap (λ l. at_start P p ++ things l) (mine_same newly R p refl) ∙ ap (λ l. at_start P p ++ l) (things_step newly (mine R p))
      ∙ sym (append_assoc (at_start P p) (things (mine R p)) (s ∷ []))

  has_one : thing_of P (newly ∷ R) name ≡ Some s
  has_one = ap (λ l. slice_get l (length (made P R p))) made_now ∙ last_there (made P R p) s

  pub distinct_now : Distinct names_now
  distinct_now = record { one = λ n m x a b. go n m x (snoc_cases ns name x n a) (snoc_cases ns name x m b) }
    where
      mixed : (n : ℕ) (x : Name) → slice_get ns n ≡ Some x → name ≡ x → ⊥
      mixed n x a e = let g = h.there n x a in let z : None ≡ Some g.thing = sym has_none ∙ ap (λ y. thing_of P R y) e ∙ g.is_thing in cc

      go : (n m : ℕ) (x : Name) → (slice_get ns n ≡ Some x) ⊎ ((n ≡ length ns) × (name ≡ x)) → (slice_get ns m ≡ Some x) ⊎ ((m ≡ length ns) × (name ≡ x))
          → n ≡ m
      go n m x (inl a) (inl b) = h.distinct.one n m x a b
      go n m x (inl a) (inr b) = absurd (mixed n x a b.1)
      go n m x (inr a) (inl b) = absurd (mixed m x b a.1)
      go n m x (inr a) (inr b) = a.0 ∙ sym b.0

  pub now_later : Later ns names_now
  now_later = record { more = name ∷ []; is = refl; distinct = distinct_now }

  no_writes : (k : Cell) → written_by k newly.act ≡ None
  no_writes k = refl

  stands_new : Stands P (newly ∷ R) names_now (w.heap ++ held t ∷ []) (length ns) name
  stands_new = record {
    held = held t;
    is_held = ap (λ n. slice_get (w.heap ++ held t ∷ []) n) h.many ∙ last_there w.heap (held t);
    thing = s;
    is_thing = has_one;
    like = thing_like_later now_later (held_thing like);
    values = λ k. maybe_later now_later (subst (λ (r : Option Value). MaybeLike ns (slice_get (held t).values k) r) (firsts (slot_of (pos k) (size s)))
        (held_like like k));
  }
    where
      firsts : (o : Option ℕ) → first_cell s o ≡ cell_value (newly ∷ R) s name o
      firsts None = refl
      firsts (Some k) = ap (λ o. Some (or_else o (first_value s k)))
          (sym (last_quiet newly R (record { object = name; slot = k }) refl ∙ h.unwritten (record { object = name; slot = k }) has_none))

  pub there_now : (n : ℕ) (x : Name) → slice_get names_now n ≡ Some x → Stands P (newly ∷ R) names_now (w.heap ++ held t ∷ []) n x
  there_now n x a = ⊎_elim (λ b. stands_later P (held t ∷ []) now_later (stands_quiet P newly no_writes (h.there n x b)))
      (λ b. subst (λ (m : ℕ). Stands P (newly ∷ R) names_now (w.heap ++ held t ∷ []) m x) (sym b.0)
      (subst (λ (y : Name). Stands P (newly ∷ R) names_now (w.heap ++ held t ∷ []) (length ns) y) b.1 stands_new)) (snoc_cases ns name x n a)
