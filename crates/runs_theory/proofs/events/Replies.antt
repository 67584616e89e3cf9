-- What a task does by itself is answered alike in a run in which all tasks have at least the same events.
use Rattle.std.proofs.Common.{◌≡◌, ℕ, pos, ◌++◌, length, refl, sym, ap, ◌∙◌, subst, Option, Some, None}
use Rattle.runs_theory.specs.Actions.{Answer, Do, Enter, Exit, Got, Look, Named, New, Own, Print, Program, Read, Rest, Write}
use Rattle.runs_theory.specs.Objects.{Cell, Path, Thing, first_value, or_else, size, slot_of}
use Rattle.runs_theory.specs.Order.{Reads}
use Rattle.runs_theory.specs.Runs.{Event, Right, Run, answered_by, at_start, last_written, mine, read_at, reply, seen, thing_of, things, value_in, wrote_at}
use Rattle.runs_theory.proofs.events.Things.{answering, same_some, thing_upto}
use Rattle.runs_theory.proofs.events.Cells.{got_in, slot_is}
use Rattle.runs_theory.proofs.runs.Standing.{Grows}

pub reply_grows : (P : Program) {G H : Run} (p : Path) (o : Own) (a : Answer) → Grows G H → mine G p ≡ mine H p
    → ((c : Cell) (t : Thing) → o ≡ Read c.object (pos c.slot) → thing_of P G c.object ≡ Some t → slot_of (pos c.slot) (size t) ≡ Some c.slot
    → last_written G c ≡ last_written H c)
    → reply P G p o ≡ Some a → reply P H p o ≡ Some a
reply_grows P p Rest a g m f h = h
reply_grows P p (Print l) a g m f h = h
reply_grows P p (Enter E) a g m f h = h
reply_grows P p Exit a g m f h = h
reply_grows P {G} {H} p (New t c) a g m f h = ap (λ es. Some (Named (record { maker = p; count = length (at_start P p ++ things es) }))) (sym m) ∙ h
reply_grows P {G} {H} p (Look n) a g m f h =
    let r = answering seen (thing_of P G n) a h in
    ap (λ x. answered_by x seen) (thing_upto P G H n r.thing (g.each n.maker) r.is_there) ∙ ap Some (sym r.answer)
reply_grows P {G} {H} p (Write n i v) a g m f h =
    let r = answering (λ t. wrote_at (slot_of i (size t))) (thing_of P G n) a h in
    ap (λ x. answered_by x (λ t. wrote_at (slot_of i (size t)))) (thing_upto P G H n r.thing (g.each n.maker) r.is_there) ∙ ap Some (sym r.answer)
reply_grows P {G} {H} p (Read n i) a g m f h =
    let r = answering (λ t. read_at G t n (slot_of i (size t))) (thing_of P G n) a h in
    ap (λ x. answered_by x (λ t. read_at H t n (slot_of i (size t)))) (thing_upto P G H n r.thing (g.each n.maker) r.is_there)
    ∙ ap Some (read_same r.thing r.is_there (slot_of i (size r.thing)) refl ∙ sym r.answer)
  where
    read_same : (t : Thing) → thing_of P G n ≡ Some t → (o : Option ℕ) → slot_of i (size t) ≡ o → read_at H t n o ≡ read_at G t n o
    read_same t k None e = refl
    read_same t k (Some slot) e =
        let index : i ≡ pos slot = slot_is i (size t) slot e in
        let last = f (record { object = n; slot = slot }) t (ap (λ j. Read n j) index) k (subst (λ j. slot_of j (size t) ≡ Some slot) index e) in
        ap (λ v. Got (or_else v (first_value t slot))) (sym last)

-- a read of a slot that the object has is an access
pub reads_of : (P : Program) (R : Run) {e : Event} (c : Cell) (t : Thing) → e.act ≡ Do (Read c.object (pos c.slot)) → thing_of P R c.object ≡ Some t
    → slot_of (pos c.slot) (size t) ≡ Some c.slot → Right P R e.path e.act e.ans → Reads c e
reads_of P R {e} c t k th s r = record {
  act = k;
  in_bounds = λ out. (
      let h : reply P R e.path (Read c.object (pos c.slot)) ≡ Some e.ans = subst (λ a. Right P R e.path a e.ans) k r in
      let a = answering (λ x. read_at R x c.object (slot_of (pos c.slot) (size x))) (thing_of P R c.object) e.ans h in
      let same : a.thing ≡ t = same_some a.is_there th in
      let got : e.ans ≡ Got (value_in R t (record { object = c.object; slot = c.slot })) =
      a.answer ∙ ap (λ x. read_at R x c.object (slot_of (pos c.slot) (size x))) same ∙ ap (λ o. read_at R t c.object o) s in
      got_in (value_in R t (record { object = c.object; slot = c.slot })) (sym got ∙ out));
}
