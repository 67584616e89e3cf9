-- Frames that fit, later, and what effects speak of, in parts.
use Rattle.std.proofs.Common.{◌≡◌, ◌≤◌, inl, inr, ℕ, ◌+◌, List, [], ◌∷◌, ◌++◌, refl, sym, ap, ◌∙◌, subst, arith, false, slice_index_or}
use Rattle.lang_base.specs.declared.elems.Elem.{Elem}
use Rattle.lang_base.specs.declared.elems.Elem.TheVariants.{Name, At, Any, Star, Local}
use Rattle.lang_base.specs.declared.elems.Index.TheVariants.{Literal, Variable, Renamed, Own}
use Rattle.lang_base.specs.declared.region.Head.{Head}
use Rattle.lang_base.specs.declared.region.Head.TheVariants.{Root, Param}
use Rattle.lang_base.specs.declared.region.Rpl.{Rpl}
use Rattle.lang_base.specs.Matching.{IsEnv, put_elem, put_in}
use Rattle.lang_base.specs.Matching.{head_region as env_region}
use Rattle.lang_base.specs.Types.{int, array}
use Rattle.lang_typed.specs.Effects.{Own as EffectOwn}
use Rattle.lang_typed.specs.Plain.{PlainProgram}
use Rattle.lang_typed.specs.Scope.{Scope, variable, frozen, constant, part, reserved}
use Rattle.lang_typed.specs.Scope.{Local as ScopeLocal}
use Rattle.lang_meaning.specs.Counts.{slot_value}
use Rattle.lang_meaning.specs.Regions.{around, part_of, head_region, concrete}
use Rattle.runs_theory.specs.Objects.{Path, LocalRegion, Made, Unmade, Value, Region}
use Rattle.runs_program.specs.Steps.{named_by}
use Rattle.runs_sound.specs.Settings.{local_code, elem_of, elems_of, Setting, env_of}
use Rattle.runs_sound.specs.Shapes.{Shapes, Grows}
use Rattle.runs_sound.specs.Accesses.{Access, LiesIn, Bounds, Entry, Within}
use Rattle.runs_sound.specs.Frames.{Frame, State, Since, IsOld, LocalFits, FrameFits}
use Rattle.runs_sound.specs.Scopes.{InScope, PathInScope}
use Rattle.runs_sound.proofs.scopes.Codes.{setting_env}
use Rattle.runs_sound.proofs.classes.Types.{fits_grows}
use Rattle.runs_sound.proofs.classes.Classes.{concrete_elems}

pub old_later : (p : Path) (m n r : ℕ) → m ≤ n → (l : LocalRegion) → IsOld p m r l → IsOld p n r l
old_later p m n r h (Unmade k) o = o
old_later p m n r h (Made q c) o = elim o [ inl a ↦ inl (a.0, (let l = a.1 in omega (arith, h, l))) | inr z ↦ inr z ]

pub local_later : (P : PlainProgram) (S T : Shapes) → Grows S T → (g : Setting) (vs : List Value) (x : ℕ) (l : ScopeLocal) → LocalFits P S g vs x l →
    LocalFits P T g vs x l
local_later P S T h g vs x (variable t) f = fits_grows P S T h (env_of g) t _ f
local_later P S T h g vs x (frozen t) f = fits_grows P S T h (env_of g) t _ f
local_later P S T h g vs x (constant t) f = fits_grows P S T h (env_of g) t _ f
local_later P S T h g vs x (part t a) f = record {
  no_index = f.no_index;
  none_mentioned = f.none_mentioned;
  array = fits_grows P S T h (env_of g) (array t a false) (slot_value vs x) f.array;
  first = fits_grows P S T h (env_of g) int (slot_value vs (x + 1)) f.first;
  len = fits_grows P S T h (env_of g) int (slot_value vs (x + 2)) f.len;
  places = f.places;
}
local_later P S T h g vs x reserved f = tt

pub frame_since : {P : PlainProgram} {p : Path} {s t : State} {g : Setting} {L : Scope} {f : Frame} → Since s t → FrameFits P p s g L f → FrameFits P p t g L f
frame_since {P} {p} {s} {t} {g} {L} {f} h ff = record {
  regions = ff.regions;
  plain = ff.plain;
  atomic = ff.atomic;
  given = ff.given;
  index = ff.index;
  made = ff.made;
  distinct = ff.distinct;
  old = λ r. old_later p s.made t.made r h.made (g.made r) (ff.old r);
  slots = ff.slots;
  local_regions = ff.local_regions;
  each = λ x l e. local_later P s.shapes t.shapes h.grows g f.values x l (ff.each x l e);
}

pub frame_env : {P : PlainProgram} {p : Path} {s : State} {g : Setting} {L : Scope} {f : Frame} → FrameFits P p s g L f → IsEnv L.given (env_of g)
frame_env {g = g} {L = L} ff = setting_env L.given g ff.plain ff.distinct ff.given

pub lies_left : (g : Setting) (E F : List EffectOwn) (a : Access) → LiesIn g E a → LiesIn g (E ++ F) a
lies_left g [] F a h = absurd h
lies_left g (o ∷ E) F a h = elim h [ inl c ↦ inl c | inr r ↦ inr (lies_left g E F a r) ]

pub lies_right : (g : Setting) (E F : List EffectOwn) (a : Access) → LiesIn g F a → LiesIn g (E ++ F) a
lies_right g [] F a h = h
lies_right g (o ∷ E) F a h = inr (lies_right g E F a h)

pub within_left : (b : Bounds) (entries : List Entry) (g : Setting) (E F : List EffectOwn) → Within b entries g (E ++ F) → Within b entries g E
within_left b entries g E F w a u h = w a u (lies_left g E F a h)

pub within_right : (b : Bounds) (entries : List Entry) (g : Setting) (E F : List EffectOwn) → Within b entries g (E ++ F) → Within b entries g F
within_right b entries g E F w a u h = w a u (lies_right g E F a h)

pub within_since : (b : Bounds) {s t : State} → Since s t → (g : Setting) (E : List EffectOwn) → Within b s.entries g E → Within b t.entries g E
within_since b h g E w = subst (λ z. Within b z g E) (sym h.entries) w

-- a path in scope with the frame put in

head_put : (rs qs : List Region) → rs ≡ qs → (g : Setting) → g.regions ≡ qs → (h : Head) → elems_of (head_region rs h) ≡ env_region (env_of g) h
head_put rs qs e g k Root = refl
head_put rs qs e g k (Param p) = ap (λ z. elems_of (slice_index_or z p [])) (e ∙ sym k)

module _ (P : PlainProgram) (p : Path) (st : State) (g : Setting) (L : Scope) (f : Frame) (ff : FrameFits P p st g L f) where
  elem_put : (q : Path) (x : Elem) → InScope L 0 x → elem_of (part_of (named_by q) (around f) x) ≡ put_elem (env_of g) x
  elem_put q (Name n) s = refl
  elem_put q (At (Literal k)) s = refl
  elem_put q (At (Variable x)) s = ap (λ z. At (Literal z)) (ff.index x s)
  elem_put q (At (Renamed x)) s = absurd s
  elem_put q (At (Own d)) s = absurd (omega (arith, s))
  elem_put q Any s = refl
  elem_put q Star s = refl
  elem_put q (Local r n) s =
      let e = ap local_code (ff.made r s.1) in
      let k : n ≡ 0 = s.0 in
      subst (λ z. elem_of (part_of (named_by q) (around f) (Local r z)) ≡ put_elem (env_of g) (Local r z)) (sym k) (λ i. Local (e i).0 (e i).1)

  pub concrete_put : (q : Path) (a : Rpl) → PathInScope L 0 a → elems_of (concrete (named_by q) (around f) a) ≡ (put_in (env_of g) a).elems
  concrete_put q a s = concrete_elems (named_by q) (around f) (env_of g) a (head_put f.regions g.regions ff.regions g refl a.head) (λ k d l. elem_put q _ (s k d l))
