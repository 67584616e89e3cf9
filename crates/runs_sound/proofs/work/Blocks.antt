-- Inside an atomic block: its scope, its frames, and that what its body does lies in the effects with which it was entered.
use Rattle.std.proofs.Common.{◌≡◌, ◌<◌, ◌≤◌, inl, inr, ℕ, zero, suc, true, List, [], ◌∷◌, map, length, refl, sym, ap, ◌∙◌, subst, arith, slice_index_or}
use Rattle.std.specs.Prelude.{All, Contains}
use Rattle.std.proofs.lemmas.List.Elements.{All-head, All-tail}
use Rattle.std.proofs.lemmas.Bool.{or_right, false≢true}
use Rattle.lang_base.specs.declared.effect.Effect.{Effect}
use Rattle.lang_base.specs.Effects.{is_write}
use Rattle.lang_base.specs.Matching.{put_in}
use Rattle.lang_base.specs.Regions.{within}
use Rattle.region_paths.proofs.Inclusion.{within-refl}
use Rattle.lang_typed.specs.Effects.{Own as EffectOwn, does, uses, effect_of, as_effects, marked, after_block}
use Rattle.lang_typed.specs.Plain.{PlainProgram}
use Rattle.lang_typed.specs.Scope.{Scope, in_atomic_block}
use Rattle.lang_typed.specs.Statements.{SameEffects}
use Rattle.lang_meaning.specs.Regions.{around, concrete, concrete_effect}
use Rattle.runs_theory.specs.Objects.{Path}
use Rattle.runs_program.specs.Steps.{named_by}
use Rattle.runs_sound.specs.Settings.{Setting, env_of}
use Rattle.runs_sound.specs.Shapes.{Grows}
use Rattle.runs_sound.specs.Accesses.{Access, at_root, Speaks, Covers, LiesIn, as_path, LiesInEntry, Bounds, Entry, Allowed, Within, entered, MayEnterWith}
use Rattle.runs_sound.specs.Frames.{Frame, State, FrameFits}
use Rattle.runs_sound.specs.Scopes.{PathInScope, GoodScope}
use Rattle.runs_sound.proofs.paths.Including.{put_root}
use Rattle.runs_sound.proofs.scopes.Frames.{concrete_put, old_later, local_later}

pub good_block : (L : Scope) → GoodScope L → GoodScope (in_atomic_block L)
good_block L good = record { each = good.each; slots = good.slots; parts = good.parts; result = λ t e. absurd (cc); given = good.given }

-- the same frame, in a later state and inside a block or outside it
pub frame_later : {P : PlainProgram} {p : Path} {s t : State} {g : Setting} {L : Scope} {f : Frame} → Grows s.shapes t.shapes → s.made ≤ t.made →
    FrameFits P p s g L f → FrameFits P p t g L f
frame_later {P} {p} {s} {t} {g} {L} {f} h m ff = record {
  regions = ff.regions;
  plain = ff.plain;
  atomic = ff.atomic;
  given = ff.given;
  index = ff.index;
  made = ff.made;
  distinct = ff.distinct;
  old = λ r. old_later p s.made t.made r m (g.made r) (ff.old r);
  slots = ff.slots;
  local_regions = ff.local_regions;
  each = λ x l e. local_later P s.shapes t.shapes h g f.values x l (ff.each x l e);
}

pub frame_block : {P : PlainProgram} {p : Path} {s : State} {g : Setting} {f : Frame} (L : Scope) → FrameFits P p s g L f →
    FrameFits P p s g (in_atomic_block L) f
frame_block L ff = record {
  regions = ff.regions;
  plain = ff.plain;
  atomic = ff.atomic;
  given = ff.given;
  index = ff.index;
  made = ff.made;
  distinct = ff.distinct;
  old = ff.old;
  slots = ff.slots;
  local_regions = ff.local_regions;
  each = ff.each;
}

pub frame_unblock : {P : PlainProgram} {p : Path} {s : State} {g : Setting} {f : Frame} (L : Scope) → FrameFits P p s g (in_atomic_block L) f →
    FrameFits P p s g L f
frame_unblock L ff = record {
  regions = ff.regions;
  plain = ff.plain;
  atomic = ff.atomic;
  given = ff.given;
  index = ff.index;
  made = ff.made;
  distinct = ff.distinct;
  old = ff.old;
  slots = ff.slots;
  local_regions = ff.local_regions;
  each = ff.each;
}

module _ (P : PlainProgram) (b : Bounds) (L : Scope) (g : Setting) (st : State) (f : Frame) (ff : FrameFits P b.path st g L f) where
  -- what an effect does as the block is entered has the effect's path
  entry_path : (e : Effect) → PathInScope L 0 e.rpl → put_in (env_of g) e.rpl ≡ as_path (concrete (named_by b.path) (around f) e.rpl)
  entry_path e s = put_root (env_of g) e.rpl ∙ ap at_root (sym (concrete_put P b.path st g L f ff b.path e.rpl s))

  -- an effect of the entry speaks of what the effect speaks of
  entry_speaks : (e : Effect) (a : Access) → PathInScope L 0 e.rpl → Speaks g e a →
      (within (at_root a.region) (as_path (concrete (named_by b.path) (around f) e.rpl)) ≡ true) × (a.write ≡ true → is_write e.access ≡ true)
  entry_speaks e a s h = (subst (λ z. within (at_root a.region) z ≡ true) (entry_path e s) h.includes, h.writes)

  entry_at : (entry : List Effect) (e : Effect) (a : Access) → PathInScope L 0 e.rpl → Speaks g e a → (k : ℕ) → k < length entry →
      slice_index_or entry k e ≡ e →
      LiesInEntry (map (concrete_effect (named_by b.path) (around f)) entry) a
  entry_at [] e a s h k l q = absurd (omega (arith, l))
  entry_at (x ∷ entry) e a s h zero l q =
      inl (subst (λ (z : Effect). (within (at_root a.region) (as_path (concrete (named_by b.path) (around f) z.rpl)) ≡ true) ×
      (a.write ≡ true → is_write z.access ≡ true)) (sym q) (entry_speaks e a s h))
  entry_at (x ∷ entry) e a s h (suc k) l q = inr (entry_at entry e a s h k (omega (arith, l)) q)

  own_speaks : (o : EffectOwn) (a : Access) → Covers g o a → Speaks g (effect_of o) a
  own_speaks (does e) a c = c
  own_speaks (uses k e) a c = c.0

  lies_entry : (entry : List Effect) (a : Access) (F : List EffectOwn) → ((e : Effect) → Contains (as_effects F) e → Contains entry e) →
      All (λ o. PathInScope L 0 (effect_of o).rpl) F → LiesIn g F a →
      LiesInEntry (map (concrete_effect (named_by b.path) (around f)) entry) a
  lies_entry entry a [] i s h = absurd h
  lies_entry entry a (o ∷ F) i s h = elim h [
    | inl c ↦ (let z = i (effect_of o) (0, omega arith, refl) in entry_at entry (effect_of o) a
        (All-head (λ o. PathInScope L 0 (effect_of o).rpl) o F s) (own_speaks o a c) z.0 z.1 z.2)
    | inr r ↦ lies_entry entry a F (λ e z. i e (suc z.0, (let l = z.1 in omega (arith, l)), z.2)) (All-tail (λ o. PathInScope L 0 (effect_of o).rpl) o F s) r
  ]

  mark_covers : (o : EffectOwn) (a : Access) → a.guarded ≡ true → Covers g o a → Covers g (marked true o) a
  mark_covers (does e) a u c = record { includes = c.includes; writes = c.writes; guarded = λ z. u }
  mark_covers (uses k e) a u c = c

  lies_marked : (E : List EffectOwn) (a : Access) → a.guarded ≡ true → LiesIn g E a → LiesIn g (after_block E) a
  lies_marked [] a u h = h
  lies_marked (o ∷ E) a u h = elim h [ inl c ↦ inl (mark_covers o a u c) | inr r ↦ inr (lies_marked E a u r) ]

  -- what the body does is allowed inside the block
  pub within_block : (made : ℕ) (entry : List Effect) (E : List EffectOwn) (entries : List Entry) → SameEffects entry (as_effects (after_block E)) →
      All (λ o. PathInScope L 0 (effect_of o).rpl) (after_block E) →
      Within b entries g (after_block E) → Within b (record { effects = map (concrete_effect (named_by b.path) (around f)) entry; made = made } ∷ entries) g E
  within_block made entry E entries se s w a gu l =
      let u = gu (or_right b.inside true refl) in
      let h = lies_marked E a u l in
      let allowed = w a (λ z. u) h in
      record { effects = allowed.effects; blocks = (inl (lies_entry entry a (after_block E) (λ e z. (se e).1 z) s h), allowed.blocks) }

  -- and the effects with which it is entered are allowed
  abbrev at_entry : Effect → Access
  at_entry e = entered (concrete_effect (named_by b.path) (around f) e)

  entry_spoken : (e : Effect) → PathInScope L 0 e.rpl → Speaks g e (at_entry e)
  entry_spoken e s = record {
    includes = subst (λ z. within (as_path (concrete (named_by b.path) (around f) e.rpl)) z ≡ true) (sym (entry_path e s))
        (within-refl (as_path (concrete (named_by b.path) (around f) e.rpl)));
    writes = λ w. w;
    guarded = λ m. refl;
  }

  entry_covers : (o : EffectOwn) → PathInScope L 0 (effect_of o).rpl → Covers g o (at_entry (effect_of o))
  entry_covers (does e) s = entry_spoken e s
  entry_covers (uses k e) s = (entry_spoken e s, λ c. absurd (false≢true c))

  entry_lies : (E : List EffectOwn) → All (λ o. PathInScope L 0 (effect_of o).rpl) E → (k : ℕ) (e d : Effect) → k < length (as_effects E) →
      slice_index_or (as_effects E) k d ≡ e → LiesIn g E (at_entry e)
  entry_lies [] s k e d l q = absurd (omega (arith, l))
  entry_lies (o ∷ E) s zero e d l q = inl (subst (λ z. Covers g o (at_entry z)) q (entry_covers o (All-head (λ o. PathInScope L 0 (effect_of o).rpl) o E s)))
  entry_lies (o ∷ E) s (suc k) e d l q = inr (entry_lies E (All-tail (λ o. PathInScope L 0 (effect_of o).rpl) o E s) k e d (omega (arith, l)) q)

  each_entered : (entries : List Entry) (F : List Effect) → ((e : Effect) → Contains F e → Allowed b entries (at_entry e)) →
      MayEnterWith b entries (map (concrete_effect (named_by b.path) (around f)) F)
  each_entered entries [] h = tt
  each_entered entries (e ∷ F) h = (h e (0, omega arith, refl), each_entered entries F (λ d c. h d (suc c.0, (let l = c.1 in omega (arith, l)), c.2)))

  pub may_enter : (entry : List Effect) (E : List EffectOwn) (entries : List Entry) → SameEffects entry (as_effects (after_block E)) →
      All (λ o. PathInScope L 0 (effect_of o).rpl) (after_block E) → Within b entries g (after_block E) →
      MayEnterWith b entries (map (concrete_effect (named_by b.path) (around f)) entry)
  may_enter entry E entries se s w = each_entered entries entry
      (λ e c. (let z = (se e).0 c in w (at_entry e) (λ x. refl) (entry_lies (after_block E) s z.0 e e z.1 z.2)))
