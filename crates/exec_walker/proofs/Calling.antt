-- A member that is entered, and an object that is made.
use Rattle.std.proofs.Common.{◌≡◌, ◌∙◌, ℕ, zero, suc, ◌-◌, ◌<◌, List, [], ◌∷◌, ◌++◌, drop, length, refl, sym, ap, arith, Option, Some, None, true, false, cond}
use Rattle.lang_base.specs.declared.place.Place.{Place}
use Rattle.lang_base.specs.declared.value.Trap.TheVariants as trap
use Rattle.lang_base.specs.declared.outcome.Limits.{Limits}
use Rattle.lang_typed.specs.Plain.{PlainProgram, PlainMember}
use Rattle.lang_typed.specs.Scope.{row_at, member_at, parent_of}
use Rattle.lang_meaning.specs.Values.{Value, Int, Boolean, Null, Object, Thing, Region}
use Rattle.lang_meaning.specs.Actions.{Look, New}
use Rattle.lang_meaning.specs.Counts.{reference, name_made}
use Rattle.lang_meaning.specs.Elision.{LocalRegion, in_order, Store, answer, after}
use Rattle.lang_meaning.specs.Expressions.{entered, new_object}
use Rattle.lang_meaning.specs.Regions.{some_long, regions_above}
use Rattle.exec_walker.specs.Walk.{Level, Waiting, At, for_value, for_object, falls, beginning, or_null, calls, enters, row_member, seen_at, constructs, creates, creates_with, pushed}
use Rattle.exec_walker.specs.Halts.{IsOver}
use Rattle.exec_walker.specs.States.{IsOverAt}

abbrev pub Regions : Type 0
Regions = List (Region LocalRegion)

pub object_of : (v : Value ℕ) (n : ℕ) → Some n ≡ reference v → v ≡ Object n
object_of (Object m) n e = let same : m ≡ n = cc in ap Object same
object_of (Int k) n e = absurd (cc)
object_of (Boolean b) n e = absurd (cc)
object_of Null n e = absurd (cc)

pub drop_more : {A : Type 0} (n : ℕ) (xs : List A) → drop 1 (drop n xs) ≡ drop (suc n) xs
drop_more zero xs = refl
drop_more (suc n) [] = refl
drop_more (suc n) (x ∷ xs) = drop_more n xs

module _ (P : PlainProgram) where
  pub enters_over : (L : Limits) (d : ℕ) (o : Option PlainMember) (seen : ℕ × Regions) (vs : List (Value ℕ)) (own : Regions) (g : Level) (ws : List Waiting) (w : Store)
      → IsOver L w → IsOverAt L (enters P d o seen vs own g ws w)
  enters_over L d None seen vs own g ws w h = h
  enters_over L d (Some m) seen vs own g ws w h = h

  pub enters_same : (d r : ℕ) (a b : ℕ × Regions) (vs us : List (Value ℕ)) (os ps : Regions) (g h : Level) (ws : List Waiting) (w : Store)
      → a ≡ b → vs ≡ us → os ≡ ps → g ≡ h
      → enters P d (row_member P (row_at P a.0 r)) a vs os g ws w ≡ enters P d (row_member P (row_at P b.0 r)) b us ps h ws w
  enters_same d r a b vs us os ps g h ws w is values own level =
      ap (λ x. enters P d (row_member P (row_at P x.0 r)) x vs os g ws w) is
      ∙ ap (λ xs. enters P d (row_member P (row_at P b.0 r)) b xs os g ws w) values
      ∙ ap (λ xs. enters P d (row_member P (row_at P b.0 r)) b us xs g ws w) own
      ∙ ap (λ x. enters P d (row_member P (row_at P b.0 r)) b us ps x ws w) level

  -- a call that is entered
  pub called_is : (d : ℕ) (at : Place) (c r : ℕ) (own : Regions) (o : Option ℕ) (n : ℕ) (us : List (Value ℕ)) (g : Level) (ws : List Waiting) (w : Store)
      → 0 < d → some_long own ≡ false → Some n ≡ o
      → enters P (d - 1) (row_member P (row_at P (seen_at P c n w).0 r)) (seen_at P c n w) (Object n ∷ us) own g ws (after (Look n) w)
      ≡ or_null at o ws w (λ n. calls P d at c r own n us g ws w)
  called_is zero at c r own o n us g ws w h short e = absurd (omega arith)
  called_is (suc d) at c r own o n us g ws w h short e =
      let same : suc d - 1 ≡ d = omega arith in
      ap (λ k. enters P k (row_member P (row_at P (seen_at P c n w).0 r)) (seen_at P c n w) (Object n ∷ us) own g ws (after (Look n) w)) same
      ∙ ap (λ b. cond b (falls ws trap.Stack at w) (enters P d (row_member P (row_at P (seen_at P c n w).0 r)) (seen_at P c n w) (Object n ∷ us) own g ws (after (Look n) w))) (sym short)
      ∙ ap (λ x. or_null at x ws w (λ n. calls P (suc d) at c r own n us g ws w)) e

  -- a member that is entered
  pub entered_is : (d : ℕ) (m : PlainMember) (o : Option PlainMember) (seen : ℕ × Regions) (vs : List (Value ℕ)) (own rs : Regions) (g h : Level) (ws : List Waiting) (w : Store)
      → Some m ≡ o → rs ≡ regions_above in_order (parent_of P) (length P.classes) seen.0 seen.1 m.class ++ own
      → h ≡ beginning m.body (entered in_order m vs rs (g.frame.left - 1)) d → At h (for_value g ∷ ws) w ≡ enters P d o seen vs own g ws w
  entered_is d m o seen vs own rs g h ws w is regions body =
      ap (λ x. At x (for_value g ∷ ws) w) body
      ∙ ap (λ xs. At (beginning m.body (entered in_order m vs xs (g.frame.left - 1)) d) (for_value g ∷ ws) w) regions
      ∙ ap (λ x. enters P d x seen vs own g ws w) is

  pub constructs_over : (L : Limits) (d : ℕ) (o : Option PlainMember) (own : Regions) (v : Value ℕ) (vs : List (Value ℕ)) (g : Level) (ws : List Waiting) (w : Store)
      → IsOver L w → IsOverAt L (constructs P d o own v vs g ws w)
  constructs_over L d None own v vs g ws w h = h
  constructs_over L d (Some m) own v vs g ws w h = h

  -- an object that is made, with a constructor and without
  pub made_with : (d : ℕ) (at : Place) (c n : ℕ) (own : Regions) (vs : List (Value ℕ)) (g : Level) (ws : List Waiting) (w : Store) (x : Thing ℕ LocalRegion)
      → 0 < d → x ≡ new_object P c own
      → constructs P (d - 1) (member_at P n) own (name_made {M = LocalRegion} (answer w.heap (New x true))) vs g ws (after (New x true) w)
      ≡ creates_with P d at c n own vs g ws w
  made_with zero at c n own vs g ws w x h e = absurd (omega arith)
  made_with (suc d) at c n own vs g ws w x h e =
      let same : suc d - 1 ≡ d = omega arith in
      ap (λ k. constructs P k (member_at P n) own (name_made {M = LocalRegion} (answer w.heap (New x true))) vs g ws (after (New x true) w)) same
      ∙ ap (λ y. constructs P d (member_at P n) own (name_made {M = LocalRegion} (answer w.heap (New y true))) vs g ws (after (New y true) w)) e

  pub constructed_is : (d : ℕ) (m : PlainMember) (o : Option PlainMember) (own : Regions) (v u : Value ℕ) (vs us : List (Value ℕ)) (g h : Level) (ws : List Waiting) (w : Store)
      → Some m ≡ o → u ≡ v → us ≡ u ∷ vs → h ≡ beginning m.body (entered in_order m us own (g.frame.left - 1)) d
      → At h (for_object u g ∷ ws) w ≡ constructs P d o own v vs g ws w
  constructed_is d m o own v u vs us g h ws w is name values body =
      ap (λ x. At x (for_object u g ∷ ws) w) body
      ∙ ap (λ xs. At (beginning m.body (entered in_order m xs own (g.frame.left - 1)) d) (for_object u g ∷ ws) w) values
      ∙ ap (λ x. At (beginning m.body (entered in_order m (x ∷ vs) own (g.frame.left - 1)) d) (for_object x g ∷ ws) w) name
      ∙ ap (λ x. constructs P d x own v vs g ws w) is

  pub unconstructed_is : (d : ℕ) (o : Option PlainMember) (own : Regions) (v u : Value ℕ) (vs : List (Value ℕ)) (g : Level) (ws : List Waiting) (w : Store)
      → None ≡ o → u ≡ v → At (pushed u g) ws w ≡ constructs P d o own v vs g ws w
  unconstructed_is d o own v u vs g ws w is name = ap (λ x. At (pushed x g) ws w) name ∙ ap (λ x. constructs P d x own v vs g ws w) is

  pub made_without : (d : ℕ) (at : Place) (c : ℕ) (o : Option ℕ) (own : Regions) (vs : List (Value ℕ)) (u : Value ℕ) (g : Level) (ws : List Waiting) (w : Store) (x : Thing ℕ LocalRegion)
      → None ≡ o → some_long own ≡ false → x ≡ new_object P c own → u ≡ name_made {M = LocalRegion} (answer w.heap (New x false))
      → At (pushed u g) ws (after (New x false) w)
      ≡ cond (some_long own) (falls ws trap.Stack at w) (creates P d at c o own vs g ws w)
  made_without d at c o own vs u g ws w x is short thing name =
      ap (λ v. At (pushed v g) ws (after (New x false) w)) name
      ∙ ap (λ y. At (pushed (name_made {M = LocalRegion} (answer w.heap (New y false))) g) ws (after (New y false) w)) thing
      ∙ ap (λ y. creates P d at c y own vs g ws w) is
      ∙ ap (λ b. cond b (falls ws trap.Stack at w) (creates P d at c o own vs g ws w)) (sym short)
