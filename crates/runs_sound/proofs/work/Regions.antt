-- Local regions that a task makes: the scope and the frames with them, and what becomes of accesses to them.
use Rattle.std.proofs.Common.{◌≡◌, ◌<◌, ◌≤◌, ⊎_elim, inl, inr, ◌⊎◌, ℕ, Bool, true, false, not, cond, ◌==◌, ◌||◌, List, [], ◌∷◌, ◌++◌, length, length-append, refl, sym, ap, ◌∙◌, subst, arith, IsTrue, slice_set, slice_index_or}
use Rattle.std.specs.Prelude.{All}
use Rattle.std.specs.List.{list_any}
use Rattle.std.proofs.lemmas.List.{length-set, get_or-set_same, get_or-set_other}
use Rattle.std.proofs.lemmas.List.Elements.{All-head, All-tail}
use Rattle.std.proofs.lemmas.Bool.{cases_Bool, eqb-true, eqb-false, cond-true, cond-false, false≢true, false_from_ne_true}
use Rattle.lang_base.specs.declared.effect.Effect.{Effect}
use Rattle.lang_base.specs.declared.elems.Elem.{Elem}
use Rattle.lang_base.specs.declared.elems.Elem.TheVariants.{Name, At, Any, Star, Local}
use Rattle.lang_base.specs.declared.region.Head.TheVariants.{Root}
use Rattle.lang_base.specs.declared.region.Rpl.{Rpl}
use Rattle.lang_base.specs.Regions.{is_local}
use Rattle.region_paths.proofs.Inclusion.{Covers, one, stop, skip}
use Rattle.lang_base.specs.Types.{PlainType}
use Rattle.lang_typed.specs.Effects.{Own as EffectOwn, does, uses, effect_of, begins_in, outside_regions}
use Rattle.lang_typed.specs.Plain.{PlainProgram}
use Rattle.lang_typed.specs.Scope.{Scope, with_local, with_regions, in_atomic_block}
use Rattle.lang_typed.specs.Scope.{Local as ScopeLocal}
use Rattle.lang_typed.specs.Statements.{declared_as, IsFree}
use Rattle.lang_meaning.specs.Core.{Goes_on}
use Rattle.lang_meaning.specs.Expressions.{none}
use Rattle.lang_meaning.specs.Statements.{makes}
use Rattle.runs_theory.specs.Objects.{Path, LocalRegion, Made, Unmade}
use Rattle.runs_sound.specs.Settings.{local_code, Setting, env_of}
use Rattle.runs_sound.specs.Accesses.{Access, Includes, Speaks, LiesIn, Bounds, Entry, InEachEntry, Within}
use Rattle.runs_sound.specs.Accesses.{Covers as CoversAccess}
use Rattle.runs_sound.specs.Frames.{Frame, State, Since, IsOld, FrameFits}
use Rattle.runs_sound.specs.Scopes.{InScope, PathInScope, GoodScope}
use Rattle.runs_sound.specs.Work.{Result, EnteredBefore, AfterMaking, InOrder}
use Rattle.runs_sound.proofs.scopes.Alike.{Alike, setting_back, setting_alike, alike_holds, alike_includes, local_alike}
use Rattle.runs_sound.proofs.scopes.Frames.{old_later, local_later}
use Rattle.runs_sound.proofs.paths.Including.{covers_of, local_within}
use Rattle.runs_sound.proofs.scopes.Locals.{local_wider, inner_is, inner_local}
use Rattle.runs_sound.proofs.scopes.Placed.{PathPlaced, TypePlaced, LocalPlaced, PlacedScope, with_outer, placed_wider, placed_path}
use Rattle.runs_sound.proofs.scopes.Wider.{Wider, wider_path, wider_type, wider_local}
use Rattle.runs_sound.proofs.work.Work.{since_now, since_since}

-- the scope with them

regions_wider : (L : Scope) (rs : List ℕ) → Wider L (with_regions rs L)
regions_wider L rs = record { index = λ x e. e; regions = λ r i. either (list_any (λ q. r == q) rs) (L.regions r) i }
  where
    either : (c b : Bool) → b ≡ true → cond c true b ≡ true
    either true b i = refl
    either false b i = i

pub good_regions : (L : Scope) → GoodScope L → (rs : List ℕ) → GoodScope (with_regions rs L)
good_regions L good rs = record {
  each = λ x l e. wider_local L (with_regions rs L) (regions_wider L rs) l (good.each x l e);
  slots = good.slots;
  parts = good.parts;
  result = λ t e. wider_type L (with_regions rs L) (regions_wider L rs) 0 t (good.result t e);
  given = λ k c l. (let z = good.given k c l in (
    wider_path L (with_regions rs L) (regions_wider L rs) 0 (slice_index_or L.given k c).left z.0,
    wider_path L (with_regions rs L) (regions_wider L rs) 0 (slice_index_or L.given k c).right z.1,
  ));
}

-- a path that doesn't begin with one of them stands in the scope without them
pub outside_path : (outer : ℕ → Bool) (L : Scope) (rs : List ℕ) (a : Rpl) → PathPlaced outer (with_regions rs L) 0 a → begins_in rs a.elems ≡ false → PathPlaced outer L 0 a
outside_path outer L rs a h n = elim h [
  | inl p ↦ inl p
  | inr q ↦ (let m : list_any (λ z. q.0 == z) rs ≡ false = subst (λ z. begins_in rs (Rpl.elems z) ≡ false) q.2 n in
      inr (q.0, q.1, q.2, sym (cond-false (list_any (λ z. q.0 == z) rs) true (L.regions q.0) m) ∙ q.3, q.4))
]

module _ (outer : ℕ → Bool) (L : Scope) (placed : PlacedScope outer L) where
  pub placed_regions : (rs : List ℕ) → PlacedScope outer (with_regions rs L)
  placed_regions rs = record {
    each = λ x l e. placed_wider outer L (with_regions rs L) (regions_wider L rs) l (placed.each x l e);
    below = λ r i. (regions_wider L rs).regions r (placed.below r i);
  }

  pub placed_block : PlacedScope outer (in_atomic_block L)
  placed_block = record { each = placed.each; below = placed.below }

  pub placed_declare : (x : ℕ) (is_final : Bool) (t : PlainType) → IsFree L x → TypePlaced outer L 0 t → PlacedScope outer (with_local x (declared_as is_final t) L)
  placed_declare x is_final t free s = record {
    each = λ y m e. ⊎_elim
        (λ h. subst (LocalPlaced outer (with_local x (declared_as is_final t) L)) (inner_is L x y (declared_as is_final t) m h e)
        (wide (declared_as is_final t) (declared is_final)))
        (λ h. wide m (placed.each y m (inner_local L x y (declared_as is_final t) m h e))) (cases_Bool (y == x));
    below = placed.below;
  }
    where
      wide : (l : ScopeLocal) → LocalPlaced outer L l → LocalPlaced outer (with_local x (declared_as is_final t) L) l
      wide l h = placed_wider outer L (with_local x (declared_as is_final t) L) (local_wider L x (declared_as is_final t) free.0) l h

      declared : (is_final : Bool) → LocalPlaced outer L (declared_as is_final t)
      declared true = s
      declared false = s

-- one that is made

abbrev pub with_made : (ℕ → LocalRegion) → Setting → Setting
with_made made g = record g { made = made }

abbrev pub made_at : ℕ → LocalRegion → (ℕ → LocalRegion) → ℕ → LocalRegion
made_at r l made q = cond (q == r) l (made q)

abbrev pub with_region : Frame → ℕ → LocalRegion → Frame
with_region f r l = record f { locals = slice_set f.locals r l }

abbrev pub region_at : Frame → ℕ → LocalRegion
region_at f r = slice_index_or f.locals r (Unmade r)

at_same : (r : ℕ) (l : LocalRegion) (made : ℕ → LocalRegion) (q : ℕ) → (q == r) ≡ true → made_at r l made q ≡ l
at_same r l made q h = cond-true (q == r) l (made q) h

at_other : (r : ℕ) (l : LocalRegion) (made : ℕ → LocalRegion) (q : ℕ) → (q == r) ≡ false → made_at r l made q ≡ made q
at_other r l made q h = cond-false (q == r) l (made q) h

-- no path stands below itself
longer : (p below : Path) (u : ℕ × ℕ) → p ≡ below ++ u ∷ p → ⊥
longer p below u e = let k : length p ≡ length (below ++ u ∷ p) = ap length e in let n = length-append below (u ∷ p) in omega (arith, k, n)

not_old : (p : Path) (m c r : ℕ) → m ≤ c → IsOld p m r (Made p c) → ⊥
not_old p m c r h o = elim o [ inl a ↦ (let l = a.1 in omega (arith, h, l)) | inr z ↦ longer p z.1 z.0 z.2 ]

-- a region that isn't in scope may be made
made_alike : (L : Scope) (g : Setting) (made : ℕ → LocalRegion) → ((r : ℕ) → IsTrue (L.regions r) → g.made r ≡ made r) → Alike L g (with_made made g)
made_alike L g made h = record { regions = refl; index = λ x e. refl; made = h; part = λ x t a e. refl }

module _ (P : PlainProgram) (p : Path) (L : Scope) (good : GoodScope L) where
  frame_made : (st h : State) (g : Setting) (f : Frame) (r : ℕ) → AfterMaking st h → L.regions r ≡ false → r < L.local_regions → FrameFits P p st g L f →
      FrameFits P p h (with_made (made_at r (Made p st.made) g.made) g) L (with_region f r (Made p st.made))
  frame_made st h g f r after free within ff = record {
    regions = ff.regions;
    plain = ff.plain;
    atomic = ff.atomic;
    given = λ k c l. (let z = good.given k c l in alike_holds L (env_of g) (env_of k1) (setting_alike al) _ z.0 z.1 (ff.given k c l));
    index = ff.index;
    made = λ q i. get_or-set_other f.locals r q new (Unmade q) (λ e. false≢true (sym free ∙ ap L.regions (sym e) ∙ i)) ∙ ff.made q i ∙ kept q i;
    distinct = distinct;
    old = old;
    slots = ff.slots;
    local_regions = length-set f.locals r new ∙ ff.local_regions;
    each = λ x l e. local_later P st.shapes h.shapes after.grows k1 f.values x l (local_alike P st.shapes L g k1 al f.values x l e (good.each x l e) (ff.each x l e));
  }
    where
      new : LocalRegion
      new = Made p st.made

      k1 : Setting
      k1 = with_made (made_at r (Made p st.made) g.made) g

      kept : (q : ℕ) → IsTrue (L.regions q) → g.made q ≡ made_at r (Made p st.made) g.made q
      kept q i = sym (at_other r (Made p st.made) g.made q (false_from_ne_true (q == r) (λ t. false≢true (sym free ∙ ap L.regions (sym (eqb-true q r t)) ∙ i))))

      al : Alike L g (with_made (made_at r (Made p st.made) g.made) g)
      al = made_alike L g (made_at r (Made p st.made) g.made) kept

      old : (q : ℕ) → IsOld p h.made q (made_at r (Made p st.made) g.made q)
      old q = ⊎_elim (λ t. subst (IsOld p h.made q) (sym (at_same r (Made p st.made) g.made q t)) (inl (refl, (let m = after.made in omega (arith, m)))))
          (λ n. subst (IsOld p h.made q) (sym (at_other r (Made p st.made) g.made q n))
          (old_later p st.made h.made q (let m = after.made in omega (arith, m)) (g.made q) (ff.old q))) (cases_Bool (q == r))

      not_new : (q : ℕ) → Made p st.made ≡ g.made q → ⊥
      not_new q e = not_old p st.made st.made q (omega arith) (subst (IsOld p st.made q) (sym e) (ff.old q))

      distinct : (q s : ℕ) → made_at r (Made p st.made) g.made q ≡ made_at r (Made p st.made) g.made s → q ≡ s
      distinct q s e = ⊎_elim
          (λ t. ⊎_elim (λ u. eqb-true q r t ∙ sym (eqb-true s r u))
          (λ u. absurd (not_new s (sym (at_same r (Made p st.made) g.made q t) ∙ e ∙ at_other r (Made p st.made) g.made s u))) (cases_Bool (s == r)))
          (λ t. ⊎_elim (λ u. absurd (not_new q (sym (at_same r (Made p st.made) g.made s u) ∙ sym e ∙ at_other r (Made p st.made) g.made q t)))
          (λ u. ff.distinct q s (sym (at_other r (Made p st.made) g.made q t) ∙ e ∙ at_other r (Made p st.made) g.made s u)) (cases_Bool (s == r)))
          (cases_Bool (q == r))

-- the frame has a region that the task has made
abbrev pub IsMade : Path → List Entry → (ℕ → LocalRegion) → Frame → ℕ → Type 0
IsMade p entries made f r = (c : ℕ) × (made r ≡ Made p c) × (region_at f r ≡ Made p c) × EnteredBefore c entries

-- regions that have been made one after the other, after these entries, and none else
pub record NewRegions (p : Path) (entries : List Entry) (rs : List ℕ) (old new : ℕ → LocalRegion) (f e : Frame) : Type 0 where
  pub kept : (q : ℕ) → list_any (λ s. q == s) rs ≡ false → (new q ≡ old q) × (region_at e q ≡ region_at f q)
  pub made : (q : ℕ) → list_any (λ s. q == s) rs ≡ true → IsMade p entries new e q

or_parts : (x y : Bool) → (x || y) ≡ false → (x ≡ false) × (y ≡ false)
or_parts false y e = (refl, e)
or_parts true y e = absurd (false≢true (sym e))

or_cases : (x y : Bool) → (x || y) ≡ true → (x ≡ true) ⊎ (y ≡ true)
or_cases true y e = inl refl
or_cases false y e = inr e

new_more : (p : Path) (entries : List Entry) (r c : ℕ) (rs : List ℕ) (old new : ℕ → LocalRegion) (f e : Frame) → r < length f.locals → EnteredBefore c entries →
    NewRegions p entries rs (made_at r (Made p c) old) new (with_region f r (Made p c)) e → NewRegions p entries (r ∷ rs) old new f e
new_more p entries r c rs old new f e l before n = record {
  kept = λ q h. (let o = or_parts (q == r) _ h in let k = n.kept q o.1 in
      (k.0 ∙ at_other r (Made p c) old q o.0, k.1 ∙ get_or-set_other f.locals r q (Made p c) (Unmade q) (eqb-false q r o.0)));
  made = λ q h. ⊎_elim (λ t. n.made q t)
      (λ t. (let k = n.kept q t in let s : (q == r) ≡ true = first q h t in (
        c,
        k.0 ∙ at_same r (Made p c) old q s,
        k.1 ∙ (let i = eqb-true q r s in
            subst (λ z. region_at (with_region f r (Made p c)) z ≡ Made p c) (sym i) (get_or-set_same f.locals r (Made p c) (Unmade r) l)),
        before,
      ))) (cases_Bool (list_any (λ s. q == s) rs));
}
  where
    first : (q : ℕ) → list_any (λ s. q == s) (r ∷ rs) ≡ true → list_any (λ s. q == s) rs ≡ false → (q == r) ≡ true
    first q h t = ⊎_elim (λ u. u) (λ u. absurd (false≢true (sym t ∙ u))) (or_cases (q == r) (list_any (λ s. q == s) rs) h)

module _ (P : PlainProgram) (b : Bounds) (L : Scope) (good : GoodScope L) where
  -- the making of regions is in order, where what follows is from the frame with them
  pub makes_order : (R : State → Result → Type 0) (rs : List ℕ) → All (λ r. (L.regions r ≡ false) × (r < L.local_regions)) rs →
      (st : State) (g : Setting) (f : Frame) → FrameFits P b.path st g L f →
      ((h : State) (made : ℕ → LocalRegion) (e : Frame) → Since st h → NewRegions b.path h.entries rs g.made made f e → FrameFits P b.path h (with_made made g) L e → R h (Goes_on none e)) →
      InOrder P b R st (makes rs f)
  unfolding InOrder
  makes_order R [] free st g f ff next = next st g.made f (since_now st) (record { kept = λ q h. (refl, refl); made = λ q h. absurd (false≢true h) }) ff
  makes_order R (r ∷ rs) free st g f ff next = λ h after.
      (let first = All-head (λ r. (L.regions r ≡ false) × (r < L.local_regions)) r rs free in
      let s : Since st h = record { grows = after.grows; made = (let m = after.made in omega (arith, m)); entries = after.entries } in
      makes_order R rs (All-tail (λ r. (L.regions r ≡ false) × (r < L.local_regions)) r rs free) h (with_made (made_at r (Made b.path st.made) g.made) g)
      (with_region f r (Made b.path st.made)) (frame_made P b.path L good st h g f r after first.0 first.1 ff)
      (λ u made e s2 n fe. next u made e (since_since s s2)
      (new_more b.path u.entries r st.made rs g.made made f e (subst (λ z. r < z) (sym ff.local_regions) first.1)
      (subst (EnteredBefore st.made) (sym (s2.entries ∙ after.entries)) after.before) n) fe))

-- the frame fits the scope with them
pub frame_regions : (P : PlainProgram) (p : Path) (st : State) (g : Setting) (L : Scope) (f e : Frame) (rs : List ℕ) (old : ℕ → LocalRegion) {entries : List Entry} → NewRegions p entries rs old g.made f e →
    FrameFits P p st g L e → FrameFits P p st g (with_regions rs L) e
frame_regions P p st g L f e rs old n ff = record {
  regions = ff.regions;
  plain = ff.plain;
  atomic = ff.atomic;
  given = ff.given;
  index = ff.index;
  made = λ q i. ⊎_elim (λ t. (let m = n.made q t in m.2 ∙ sym m.1))
      (λ t. ff.made q (sym (cond-false (list_any (λ s. q == s) rs) true (L.regions q) t) ∙ i)) (cases_Bool (list_any (λ s. q == s) rs));
  distinct = ff.distinct;
  old = ff.old;
  slots = ff.slots;
  local_regions = ff.local_regions;
  each = ff.each;
}

-- and after their scope the one without
pub frame_regions_left : (P : PlainProgram) (p : Path) (st : State) (g : Setting) (L : Scope) → GoodScope L → (f : Frame) (rs : List ℕ) (made : ℕ → LocalRegion) →
    Alike L g (with_made made g) → ((r q : ℕ) → g.made r ≡ g.made q → r ≡ q) → ((r : ℕ) → IsOld p st.made r (g.made r)) →
    FrameFits P p st (with_made made g) (with_regions rs L) f → FrameFits P p st g L f
frame_regions_left P p st g L good f rs made al distinct old ff = record {
  regions = ff.regions;
  plain = ff.plain;
  atomic = ff.atomic;
  given = λ j c h. (let z = good.given j c h in alike_holds L (env_of (with_made made g)) (env_of g) (setting_alike (setting_back al)) _ z.0 z.1 (ff.given j c h));
  index = ff.index;
  made = λ q i. ff.made q ((regions_wider L rs).regions q i) ∙ sym (al.made q i);
  distinct = distinct;
  old = old;
  slots = ff.slots;
  local_regions = ff.local_regions;
  each = λ y m e. local_alike P st.shapes L (with_made made g) g (setting_back al) f.values y m e (good.each y m e) (ff.each y m e);
}

-- they aren't in scope before
none_new : (L : Scope) (rs : List ℕ) → All (λ r. (L.regions r ≡ false) × (r < L.local_regions)) rs → (q : ℕ) → IsTrue (L.regions q) → list_any (λ s. q == s) rs ≡ false
none_new L [] free q i = refl
none_new L (r ∷ rs) free q i =
    let first = All-head (λ r. (L.regions r ≡ false) × (r < L.local_regions)) r rs free in
    let n : (q == r) ≡ false = false_from_ne_true (q == r) (λ t. false≢true (sym first.0 ∙ ap L.regions (sym (eqb-true q r t)) ∙ i)) in
    ap (λ z. z || list_any (λ s. q == s) rs) n ∙ none_new L rs (All-tail (λ r. (L.regions r ≡ false) × (r < L.local_regions)) r rs free) q i

pub new_alike : (L : Scope) (p : Path) {entries : List Entry} (g : Setting) (made : ℕ → LocalRegion) (f e : Frame) (rs : List ℕ) →
    All (λ r. (L.regions r ≡ false) × (r < L.local_regions)) rs → NewRegions p entries rs g.made made f e → Alike L g (with_made made g)
new_alike L p g made f e rs free n = made_alike L g made (λ q i. sym (n.kept q (none_new L rs free q i)).0)

-- what effects speak of where they stand for what was made, they speak of outside, or it lies in a region of the task's own

-- what lies in a path that begins with a local region begins with it
begins_local : {x : Elem} {b r : List Elem} → is_local x ≡ true → Covers (x ∷ b) r → (rest : List Elem) × (r ≡ x ∷ rest)
begins_local h (one {x = y} {a = a} e s q) = (a, ap (λ z. z ∷ a) (local_within y _ h e))
begins_local h (stop q) = absurd (false≢true h)
begins_local h (skip l q) = absurd (false≢true h)

-- a local region that the task has made since each of these entries
record InNewRegion (p : Path) (entries : List Entry) (r : List Elem) : Type 0 where
  count : ℕ
  before : EnteredBefore count entries
  rest : List Elem
  is : r ≡ Local (local_code (Made p count)).0 (local_code (Made p count)).1 ∷ rest

own_begins : (p : Path) (entries : List Entry) (g : Setting) (c r : ℕ) → EnteredBefore c entries → (rest : List Elem) (a : Rpl) (region : List Elem) → a ≡ record { head = Root; elems = Local r 0 ∷ rest } → g.made r ≡ Made p c →
    Includes (env_of g) a region → InNewRegion p entries region
own_begins p entries g c r before rest a region is m h =
    let code = ap local_code m in
    let first : Rpl = record { head = Root; elems = Local r 0 ∷ rest } in
    let z = begins_local refl (covers_of (env_of g) first region (subst (λ z. Includes (env_of g) z region) is h)) in
    record { count = c; before = before; rest = z.0; is = z.1 ∙ (λ i. Local (code i).0 (code i).1 ∷ z.0) }

module _ (L : Scope) (outer : ℕ → Bool) (placed : PlacedScope outer L) (p : Path) (entries : List Entry) (g : Setting) (made : ℕ → LocalRegion) (f e : Frame) (rs : List ℕ)
    (free : All (λ r. (L.regions r ≡ false) × (r < L.local_regions)) rs) (n : NewRegions p entries rs g.made made f e) where
  al : Alike L g (with_made made g)
  al = new_alike L p g made f e rs free n

  no_outer : (a : List Elem) → All (InScope (with_outer outer L) 0) a → begins_in rs a ≡ true → ⊥
  no_outer [] s h = false≢true h
  no_outer (Local r k ∷ a) s h =
      let z = All-head (InScope (with_outer outer L) 0) (Local r k) a s in
      false≢true (sym (none_new L rs free r (placed.below r z.1)) ∙ h)
  no_outer (Name x ∷ a) s h = false≢true h
  no_outer (At x ∷ a) s h = false≢true h
  no_outer (Any ∷ a) s h = false≢true h
  no_outer (Star ∷ a) s h = false≢true h

  speaks_own : (x : Effect) (a : Access) → PathPlaced outer (with_regions rs L) 0 x.rpl → begins_in rs x.rpl.elems ≡ true → Speaks (with_made made g) x a → InNewRegion p entries a.region
  speaks_own x a s h t = elim s [
    | inl q ↦ absurd (no_outer x.rpl.elems q h)
    | inr q ↦ (let m = n.made q.0 (subst (λ z. begins_in rs (Rpl.elems z) ≡ true) q.2 h) in own_begins p entries (with_made made g) m.0 q.0 m.3 q.1 x.rpl a.region q.2 m.1 t.includes)
  ]

  speaks_outside : (x : Effect) (a : Access) → PathInScope L 0 x.rpl → Speaks (with_made made g) x a → Speaks g x a
  speaks_outside x a s t = record {
    includes = alike_includes L 0 (env_of (with_made made g)) (env_of g) (setting_alike (setting_back al)) x.rpl s a.region t.includes;
    writes = t.writes;
    guarded = t.guarded;
  }

  covers_outside : (o : EffectOwn) (a : Access) → PathInScope L 0 (effect_of o).rpl → CoversAccess (with_made made g) o a → CoversAccess g o a
  covers_outside (does x) a s c = speaks_outside x a s c
  covers_outside (uses k x) a s c = (speaks_outside x a s c.0, c.1)

  covers_own : (o : EffectOwn) (a : Access) → PathPlaced outer (with_regions rs L) 0 (effect_of o).rpl → begins_in rs (effect_of o).rpl.elems ≡ true → CoversAccess (with_made made g) o a →
      InNewRegion p entries a.region
  covers_own (does x) a s h c = speaks_own x a s h c
  covers_own (uses k x) a s h c = speaks_own x a s h c.0

  lies_regions : (F : List EffectOwn) (a : Access) → All (λ o. PathPlaced outer (with_regions rs L) 0 (effect_of o).rpl) F → LiesIn (with_made made g) F a →
      LiesIn g (outside_regions rs F) a ⊎ InNewRegion p entries a.region
  lies_regions [] a s h = absurd h
  lies_regions (o ∷ F) a s h =
      let Placed : EffectOwn → Type 0 = λ o. PathPlaced outer (with_regions rs L) 0 (effect_of o).rpl in
      let first = All-head Placed o F s in
      let rest = lies_regions F a (All-tail Placed o F s) in
      ⊎_elim
      (λ t. elim h [ inl c ↦ inr (covers_own o a first t c) | inr r ↦ kept (not (begins_in rs (effect_of o).rpl.elems)) (rest r) ])
      (λ t. elim h [
        | inl c ↦ inl (subst (λ z. LiesIn g z a) (sym (cond-true (not (begins_in rs (effect_of o).rpl.elems)) (o ∷ outside_regions rs F) (outside_regions rs F) (ap not t)))
            (inl (covers_outside o a (placed_path outer L placed 0 (effect_of o).rpl (outside_path outer L rs (effect_of o).rpl first t)) c)))
        | inr r ↦ kept (not (begins_in rs (effect_of o).rpl.elems)) (rest r)
      ])
      (cases_Bool (begins_in rs (effect_of o).rpl.elems))
    where
      kept : (c : Bool) → LiesIn g (outside_regions rs F) a ⊎ InNewRegion p entries a.region →
          LiesIn g (cond c (o ∷ outside_regions rs F) (outside_regions rs F)) a ⊎ InNewRegion p entries a.region
      kept true h = elim h [ inl l ↦ inl (inr l) | inr q ↦ inr q ]
      kept false h = h

each_own : (p : Path) (entries : List Entry) (a : Access) → InNewRegion p entries a.region → InEachEntry p entries a
each_own p [] a h = tt
each_own p (E ∷ entries) a h = (
  inr (record { count = h.count; later = h.before.0; rest = h.rest; is = h.is }),
  each_own p entries a (record { count = h.count; before = h.before.1; rest = h.rest; is = h.is }),
)

-- so it is allowed
pub within_regions : (L : Scope) (outer : ℕ → Bool) → PlacedScope outer L → (b : Bounds) (entries : List Entry) (g : Setting) (made : ℕ → LocalRegion) (f e : Frame)
    (rs : List ℕ) → All (λ r. (L.regions r ≡ false) × (r < L.local_regions)) rs → NewRegions b.path entries rs g.made made f e → (F : List EffectOwn) →
    All (λ o. PathPlaced outer (with_regions rs L) 0 (effect_of o).rpl) F → Within b entries g (outside_regions rs F) → Within b entries (with_made made g) F
within_regions L outer placed b entries g made f e rs free n F s w a gu l = elim (lies_regions L outer placed b.path entries g made f e rs free n F a s l) [
  | inl h ↦ w a gu h
  | inr h ↦ record { effects = inr (record { below = []; count = h.count; rest = h.rest; is = h.is }); blocks = each_own b.path entries a h }
]
