-- Where an answer leads, by the instruction.
use Rattle.std.proofs.Common.{◌≡◌, ℕ, ℤ, zero, suc, ◌-◌, pos, List, [], ◌∷◌, ◌++◌, map, length, reverse, take, drop, refl, sym, ap, ◌∙◌, subst, cond, ◌==◌, Bool, true, false, Option, Some, None}
use Rattle.std.specs.Prelude.{negsuc, slice_get}
use Rattle.lang_base.specs.declared.place.Place.{Place}
use Rattle.lang_base.specs.declared.region.Rpl.{Rpl}
use Rattle.lang_base.specs.declared.value.FirstValue.{FirstValue}
use Rattle.lang_base.specs.declared.value.Value.{Value as Constant}
use Rattle.lang_typed.specs.declared.stmt.Forking.{Forking}
use Rattle.lang_typed.specs.Plain.{PlainParent}
use Rattle.lang_meaning.specs.Values.{Value, Int, Boolean, Null, Object, Region, An_array}
use Rattle.lang_meaning.specs.Actions as meaning
use Rattle.lang_meaning.specs.Actions.{Do, Look, New, Print}
use Rattle.lang_meaning.specs.Counts.{number, value_read, is_out, length_seen, name_made, class_seen, class_entered, padded}
use Rattle.lang_meaning.specs.Regions.{handed_up, around, concrete, some_long, is_long, regions_above, unmade_from}
use Rattle.code_instrs.specs.Machine.{Level, State, Stand, On, Waits, Nowhere, one, two, three, next, cell_read, cell_written, reads, writes, unless_null, unless_long, deeper, held_first, array_of, calls, enters, called, created, creates, calls_method, forked, taken}
use Rattle.code_instrs.specs.Plain.{PlainCode, body_at, Method, parent_of, method_at, constructor_of, call_site, new_site, fork_site}
use Rattle.exec_task.specs.Answers.{LeadsTo, method_start, first_at}
use Rattle.exec_task.specs.Frames.{frame_of}
use Rattle.exec_frames.specs.Names.{plain_value}
use Rattle.exec_task.specs.Names.{names_of}
use Rattle.exec_task.proofs.Taken.{taken_none, taken_one}
use Rattle.exec_frames.proofs.Dropped.{map_drop}

-- whatever the task
unmade_any : (task r n : ℕ) → unmade_from (names_of task) r n ≡ unmade_from (names_of 0) r n
unmade_any task r zero = refl
unmade_any task r (suc n) = ap (λ l. (r, 0) ∷ l) (unmade_any task (suc r) n)

module _ (x : meaning.Answer ℕ (ℕ × ℕ)) (s : State ℕ (ℕ × ℕ)) (place : Place) where
  pub unless : (v : Value ℕ) (k : ℕ → Stand ℕ (ℕ × ℕ)) → ((n : ℕ) → v ≡ Object n → LeadsTo (k n) x s) → LeadsTo (unless_null place v k) x s
  unless (Int i) k h = tt
  unless (Boolean b) k h = tt
  unless Null k h = tt
  unless (Object n) k h = h n refl

  pub not_long : (b : Bool) (o : Stand ℕ (ℕ × ℕ)) → LeadsTo o x s → LeadsTo (unless_long b place o) x s
  not_long true o h = tt
  not_long false o h = h

  pub deep : (left : ℕ) (o : Stand ℕ (ℕ × ℕ)) → LeadsTo o x s → LeadsTo (deeper left place o) x s
  deep zero o h = tt
  deep (suc n) o h = h

  module _ (g : Level ℕ (ℕ × ℕ)) (fs : List (Level ℕ (ℕ × ℕ))) where
    pub get_leads : (st : List (Value ℕ)) (k : ℤ) → s ≡ cell_read place (value_read x) g (drop 1 st) fs → LeadsTo (one st (λ v rest. reads place v k g rest fs)) x s
    get_leads [] k e = tt
    get_leads (v ∷ st) k e = unless v _ (λ n h. e)

    pub element_leads : (st : List (Value ℕ)) → s ≡ cell_read place (value_read x) g (drop 2 st) fs → LeadsTo (two st (λ v j rest. reads place v (number j) g rest fs)) x s
    element_leads [] e = tt
    element_leads (j ∷ []) e = tt
    element_leads (j ∷ v ∷ st) e = unless v _ (λ n h. e)

    pub put_leads : (st : List (Value ℕ)) (k : ℤ) → s ≡ cell_written place (is_out x) g (drop 2 st) fs → LeadsTo (two st (λ v u rest. writes place v k u g rest fs)) x s
    put_leads [] k e = tt
    put_leads (u ∷ []) k e = tt
    put_leads (u ∷ v ∷ st) k e = unless v _ (λ n h. e)

    pub put_element_leads : (st : List (Value ℕ)) → s ≡ cell_written place (is_out x) g (drop 3 st) fs
        → LeadsTo (three st (λ v j u rest. writes place v (number j) u g rest fs)) x s
    put_element_leads [] e = tt
    put_element_leads (u ∷ []) e = tt
    put_element_leads (u ∷ j ∷ []) e = tt
    put_element_leads (u ∷ j ∷ v ∷ st) e = unless v _ (λ n h. e)

    pub length_leads : (st : List (Value ℕ)) → s ≡ next g (Int (pos (length_seen x)) ∷ drop 1 st) fs
        → LeadsTo (one st (λ v rest. unless_null place v (λ n. Waits (Do (Look n)) (λ a. next g (Int (pos (length_seen a)) ∷ rest) fs)))) x s
    length_leads [] e = tt
    length_leads (v ∷ st) e = unless v _ (λ n h. e)

    pub print_leads : (st : List (Value ℕ)) (bytes : Value ℕ → List ℕ) → s ≡ next g (drop 1 st) fs
        → LeadsTo (one st (λ v rest. Waits (Do (Print (bytes v))) (λ a. next g rest fs))) x s
    print_leads [] bytes e = tt
    print_leads (v ∷ st) bytes e = e

    pub array_leads : (task : ℕ) (st : List (Value ℕ)) (region : Rpl) (first : FirstValue) → s ≡ next g (name_made x ∷ drop 1 st) fs
        → LeadsTo (one st (λ v rest. array_of place (concrete (names_of task) (around g.frame) region) first (number v) g rest fs)) x s
    array_leads task [] region first e = tt
    array_leads task (v ∷ st) region first e = by_sign (number v)
      where
        by_sign : (k : ℤ) → LeadsTo (array_of place (concrete (names_of task) (around g.frame) region) first k g st fs) x s
        by_sign (pos k) = not_long (is_long (concrete (names_of task) (around g.frame) region))
            (Waits (Do (New (An_array (concrete (names_of task) (around g.frame) region) k (held_first first)) false)) (λ a. next g (name_made a ∷ st) fs)) e
        by_sign (negsuc k) = tt

    pub fork_leads : (forking : Forking) (js : List ℕ) (copies : List (List ℕ)) → s ≡ next g (Int (pos (length js)) ∷ g.stack) fs
        → LeadsTo (forked place (Some (fork_site forking js copies)) g fs) x s
    fork_leads forking js copies e = deep g.frame.left _ e

module _ (parent : ℕ → Option PlainParent) where
  abbrev onward : ℕ → ℕ → ℕ → List (Region (ℕ × ℕ)) → Option PlainParent → List (Region (ℕ × ℕ))
  onward task k d rs o = elim o [ None ↦ rs | Some p ↦ regions_above (names_of task) parent k p.class (handed_up (names_of task) rs p.args) d ]

  pub above_any : (task k c d : ℕ) (rs : List (Region (ℕ × ℕ))) → regions_above (names_of task) parent k c rs d ≡ regions_above (names_of 0) parent k c rs d
  above_any task zero c d rs = refl
  above_any task (suc k) c d rs = ap (cond (c == d) rs) (upward (parent c) (λ e qs. above_any task k e d qs))
    where
      upward : (o : Option PlainParent) → ((e : ℕ) (qs : List (Region (ℕ × ℕ))) → regions_above (names_of task) parent k e qs d ≡ regions_above (names_of 0) parent k e qs d)
          → onward task k d rs o ≡ onward 0 k d rs o
      upward None h = refl
      upward (Some p) h = h p.class (handed_up (names_of 0) rs p.args)

module _ (C : PlainCode) (task : ℕ) where
  abbrev entered_with : Method → List (Value ℕ) → List Rpl → Level ℕ (ℕ × ℕ) → List (Level ℕ (ℕ × ℕ)) → List (ℕ × ℕ) → List (Region (ℕ × ℕ)) → State ℕ (ℕ × ℕ)
  entered_with m vs own g fs ls rs =
      On (record {
        body = m.body;
        at = 0;
        frame = record { values = padded (body_at C m.body).slots vs; regions = rs ++ map (concrete (names_of 0) (around g.frame)) own; locals = ls; left = g.frame.left - 1 };
        stack = [];
      }) (g ∷ fs)

  pub enters_row : (r : ℕ) (seen : ℕ × List (Region (ℕ × ℕ))) (m : Method) (vs : List (Value ℕ)) (own : List Rpl) (g h : Level ℕ (ℕ × ℕ)) (fs hs : List (Level ℕ (ℕ × ℕ)))
      → Some m ≡ method_at C seen.0 r → h ≡ first_at (method_start C m seen vs g.frame own) → hs ≡ g ∷ fs
      → On h hs ≡ enters (names_of task) C seen r vs (map (concrete (names_of task) (around g.frame)) own) g fs
  enters_row r seen m vs own g h fs hs e a b =
      ap (λ i. On i hs) a ∙ ap (λ is. On (first_at (method_start C m seen vs g.frame own)) is) b
      ∙ ap (λ ls. entered_with m vs own g fs ls (regions_above (names_of 0) (parent_of C) (length C.classes) seen.0 seen.1 m.owner))
      (sym (unmade_any task 0 (body_at C m.body).local_regions))
      ∙ ap (entered_with m vs own g fs (unmade_from (names_of task) 0 (body_at C m.body).local_regions))
      (sym (above_any (parent_of C) task (length C.classes) seen.0 m.owner seen.1))
      ∙ ap (λ o. calls_method (names_of task) C o seen vs (map (concrete (names_of task) (around g.frame)) own) g fs) e

  pub no_row : (r : ℕ) (seen : ℕ × List (Region (ℕ × ℕ))) (vs : List (Value ℕ)) (own : List (Region (ℕ × ℕ))) (g : Level ℕ (ℕ × ℕ)) (fs : List (Level ℕ (ℕ × ℕ)))
      → None ≡ method_at C seen.0 r → Nowhere ≡ enters (names_of task) C seen r vs own g fs
  no_row r seen vs own g fs e = ap (λ o. calls_method (names_of task) C o seen vs own g fs) e

  -- a call, with the receiver that stands so far down
  module _ (x : meaning.Answer ℕ (ℕ × ℕ)) (s : State ℕ (ℕ × ℕ)) (place : Place) (c r n : ℕ) (own : List Rpl) (st : List Constant)
      (g : Level ℕ (ℕ × ℕ)) (fs : List (Level ℕ (ℕ × ℕ))) (i : g.stack ≡ map plain_value st) where
    abbrev looked : List (Value ℕ) → Value ℕ → List (Value ℕ) → Stand ℕ (ℕ × ℕ)
    looked vs w rs = unless_null place w (λ m. calls (names_of task) C place c r (map (concrete (names_of task) (around g.frame)) own) m (reverse vs) g rs fs)

    pub call_short : slice_get st n ≡ None → LeadsTo (called (names_of task) C place (Some (call_site c r n own)) g fs) x s
    call_short e = subst (λ o. LeadsTo o x s) (sym (ap (λ l. taken n l (λ vs rest. one rest (looked vs))) i ∙ taken_none n st looked e)) tt

    pub call_leads : (v : Constant) → slice_get st n ≡ Some v
        → s ≡ enters (names_of task) C (class_entered (parent_of C) (length C.classes) c (class_seen x)) r (plain_value v ∷ reverse (take n (map plain_value st)))
        (map (concrete (names_of task) (around g.frame)) own) (record g { at = suc g.at; stack = drop (suc n) (map plain_value st) }) fs
        → LeadsTo (called (names_of task) C place (Some (call_site c r n own)) g fs) x s
    call_leads v e h =
        subst (λ o. LeadsTo o x s) (sym (ap (λ l. taken n l (λ vs rest. one rest (looked vs))) i ∙ taken_one n st v looked e))
        (unless x s place (plain_value v) (λ m. calls (names_of task) C place c r (map (concrete (names_of task) (around g.frame)) own) m (reverse (take n (map plain_value st))) g (map plain_value (drop (suc n) st)) fs) (λ m j. deep x s place g.frame.left _ (not_long x s place (some_long (map (concrete (names_of task) (around g.frame)) own))
        (Waits (Do (Look m)) (λ a. enters (names_of task) C (class_entered (parent_of C) (length C.classes) c (class_seen a)) r (Object m ∷ reverse (take n (map plain_value st)))
        (map (concrete (names_of task) (around g.frame)) own) (record g { at = suc g.at; stack = map plain_value (drop (suc n) st) }) fs))
        (h ∙ ap (λ l. enters (names_of task) C (class_entered (parent_of C) (length C.classes) c (class_seen x)) r (plain_value v ∷ reverse (take n (map plain_value st)))
        (map (concrete (names_of task) (around g.frame)) own) (record g { at = suc g.at; stack = l }) fs) (sym (map_drop plain_value (suc n) st))
        ∙ ap (λ w. enters (names_of task) C (class_entered (parent_of C) (length C.classes) c (class_seen x)) r (w ∷ reverse (take n (map plain_value st)))
        (map (concrete (names_of task) (around g.frame)) own) (record g { at = suc g.at; stack = map plain_value (drop (suc n) st) }) fs) j))))

  taken_leads : (x : meaning.Answer ℕ (ℕ × ℕ)) (s : State ℕ (ℕ × ℕ)) (n : ℕ) (st : List (Value ℕ)) (k : List (Value ℕ) → List (Value ℕ) → Stand ℕ (ℕ × ℕ))
      → LeadsTo (k (take n st) (drop n st)) x s → LeadsTo (taken n st k) x s
  taken_leads x s zero st k h = h
  taken_leads x s (suc n) [] k h = tt
  taken_leads x s (suc n) (v ∷ st) k h = taken_leads x s n st (λ vs rest. k (v ∷ vs) rest) h

  -- the making of an object, of a class without a constructor and of one that has it
  pub make_leads : (x : meaning.Answer ℕ (ℕ × ℕ)) (s : State ℕ (ℕ × ℕ)) (place : Place) (c n : ℕ) (own : List Rpl) (g : Level ℕ (ℕ × ℕ)) (fs : List (Level ℕ (ℕ × ℕ)))
      → constructor_of C c ≡ None → s ≡ next g (name_made x ∷ drop n g.stack) fs
      → LeadsTo (created (names_of task) C place (Some (new_site c n own)) g fs) x s
  make_leads x s place c n own g fs e h =
      taken_leads x s n g.stack _ (not_long x s place _ _
      (subst (λ o. LeadsTo (creates (names_of task) C place c (map (concrete (names_of task) (around g.frame)) own) (reverse (take n g.stack)) o g (drop n g.stack) fs) x s) (sym e) h))

  pub construct_leads : (x : meaning.Answer ℕ (ℕ × ℕ)) (s : State ℕ (ℕ × ℕ)) (place : Place) (c n j : ℕ) (own : List Rpl) (g h : Level ℕ (ℕ × ℕ))
      (fs hs : List (Level ℕ (ℕ × ℕ))) → constructor_of C c ≡ Some j
      → h ≡ first_at (record { body = j; frame = frame_of (names_of 0) C j (name_made x ∷ reverse (take n g.stack)) (map (concrete (names_of 0) (around g.frame)) own) (g.frame.left - 1) })
      → hs ≡ record g { at = suc g.at; stack = name_made x ∷ drop n g.stack } ∷ fs → s ≡ On h hs
      → LeadsTo (created (names_of task) C place (Some (new_site c n own)) g fs) x s
  construct_leads x s place c n j own g h fs hs e a b i =
      taken_leads x s n g.stack _ (not_long x s place _ _
      (subst (λ o. LeadsTo (creates (names_of task) C place c (map (concrete (names_of task) (around g.frame)) own) (reverse (take n g.stack)) o g (drop n g.stack) fs) x s) (sym e)
      (deep x s place g.frame.left _ (i ∙ ap (λ k. On k hs) a ∙ ap (λ ks. On (begun (unmade_from (names_of 0) 0 (body_at C j).local_regions)) ks) b
      ∙ ap (λ ls. On (begun ls) (record g { at = suc g.at; stack = name_made x ∷ drop n g.stack } ∷ fs)) (sym (unmade_any task 0 (body_at C j).local_regions))))))
    where
      begun : List (ℕ × ℕ) → Level ℕ (ℕ × ℕ)
      begun ls = record {
        body = j;
        at = 0;
        frame = record {
          values = padded (body_at C j).slots (name_made x ∷ reverse (take n g.stack));
          regions = map (concrete (names_of 0) (around g.frame)) own;
          locals = ls;
          left = g.frame.left - 1;
        };
        stack = [];
      }
