-- What an end told at first and what it tells now, in the course of reading or writing all.
use Rattle.std.proofs.Common.{◌≡◌, ℕ, ◌+◌, ◌-◌, ◌<◌, ◌≤◌, List, [], ◌++◌, length, take, drop, Option, Some, None, IfSome, sym, ap, ◌∙◌, subst, arith, append_assoc, append-nil, length-append}
use Rattle.std.proofs.Math.Seq.{take-add, take-length}
use Rattle.std.proofs.lemmas.List.{drop-drop, length-drop, length-take, take-append-drop, take-append-le}
use Rattle.std.specs.Prelude.{Bool, true, false, if◌then◌else◌}
use Rattle.tool_io.specs.Ends.{Fills}

-- where a source told what was left at first, all are its first bytes and the rest is left now
abbrev pub Took : Option (List ℕ) → List ℕ → Option (List ℕ) → Type 0
Took first all now =
    IfSome first (λ bytes. (length all ≤ length bytes) × (all ≡ take (length all) bytes) × (now ≡ Some (drop (length all) bytes)))

-- where a sink told what it held at first, it holds that and then the first bytes now
abbrev pub Wrote : Option (List ℕ) → ℕ → List ℕ → Option (List ℕ) → Type 0
Wrote first done bytes now = IfSome first (λ old. now ≡ Some (old ++ take done bytes))

-- where a sink told its room at first, so much of it is used now
abbrev pub UsedRoom : Option ℕ → ℕ → Option ℕ → Type 0
UsedRoom first done now = IfSome first (λ room. (done ≤ room) × (now ≡ Some (room - done)))

-- `&xs[n..]`
pub rest_of : (n : ℕ) (xs : List ℕ) → take (length xs - n) (drop n xs) ≡ drop n xs
rest_of n xs = ap (λ k. take k (drop n xs)) (sym (length-drop n xs)) ∙ take-length (drop n xs)

pub Wrote-more : (first now next : Option (List ℕ)) (bytes piece : List ℕ) (done count : ℕ) → piece ≡ drop done bytes
    → Wrote first done bytes now → IfSome now (λ held. next ≡ Some (held ++ take count piece)) → Wrote first (done + count) bytes next
Wrote-more None now next bytes piece done count e wrote put = tt
Wrote-more (Some old) now next bytes piece done count e wrote put =
    let step = subst (λ (reported : Option (List ℕ)). IfSome reported (λ held. next ≡ Some (held ++ take count piece))) wrote put in
    step ∙ ap Some (append_assoc old (take done bytes) (take count piece) ∙ ap (λ l. old ++ l) (ap (λ l. take done bytes ++ take count l) e ∙ sym (take-add done count bytes)))

pub UsedRoom-more : (first now next : Option ℕ) (done count : ℕ) → UsedRoom first done now → UsedRoom now count next → UsedRoom first (done + count) next
UsedRoom-more None now next done count used more = tt
UsedRoom-more (Some room) now next done count used more =
    let step = subst (λ (reported : Option ℕ). UsedRoom reported count next) used.1 more in
    let both : (room - done) - count ≡ room - (done + count) = omega arith in
    (omega (arith, used.0, step.0), step.1 ∙ ap Some both)

-- a call that used some of the room counted no fault
pub untroubled_more : (first now next : Option ℕ) (done count was is then_is : ℕ) → UsedRoom first done now → UsedRoom now count next → 1 ≤ count
    → IfSome first (λ _. is ≡ was) → IfSome now (λ room. 0 < room → then_is ≡ is) → IfSome first (λ _. then_is ≡ was)
untroubled_more None now next done count was is then_is used more some same put = tt
untroubled_more (Some room) now next done count was is then_is used more some same put =
    let step = subst (λ (reported : Option ℕ). UsedRoom reported count next) used.1 more in
    let kept = subst (λ (reported : Option ℕ). IfSome reported (λ room. 0 < room → then_is ≡ is)) used.1 put in
    kept (omega (arith, step.0, some)) ∙ same

pub Took-more : (first now next : Option (List ℕ)) (all more after : List ℕ) (count : ℕ) → Took first all now
    → IfSome now (λ left. Fills left after count) → IfSome now (λ left. next ≡ Some (drop count left))
    → more ≡ all ++ take count after → Took first more next
Took-more None now next all more after count took filled taken e = tt
Took-more (Some bytes) now next all more after count took filled taken e =
    let left = drop (length all) bytes in
    let fills = subst (λ (reported : Option (List ℕ)). IfSome reported (λ l. Fills l after count)) took.2 filled in
    let drops = subst (λ (reported : Option (List ℕ)). IfSome reported (λ l. next ≡ Some (drop count l))) took.2 taken in
    let long : length (take count left) ≡ count = omega (arith, length-take count left, fills.within) in
    let piece : take count after ≡ take count left = fills.front in
    let whole : more ≡ take (length all) bytes ++ take count left = e ∙ (λ i. took.1 i ++ piece i) in
    let size : length more ≡ length all + count = ap length e ∙ length-append all (take count after) ∙ ap (λ n. length all + n) (ap length piece ∙ long) in (
      omega (arith, size, took.0, fills.within, length-drop (length all) bytes),
      whole ∙ sym (take-add (length all) count bytes) ∙ ap (λ n. take n bytes) (sym size),
      drops ∙ ap Some (drop-drop count (length all) bytes ∙ ap (λ n. drop n bytes) (sym size)),
    )

-- a source that gives nothing has given all
pub Took-all : (first now : Option (List ℕ)) (all after : List ℕ) (count : ℕ) → count ≡ 0 → Took first all now
    → IfSome now (λ left. Fills left after count) → IfSome first (λ bytes. all ≡ bytes)
Took-all None now all after count zero took filled = tt
Took-all (Some bytes) now all after count zero took filled =
    let fills = subst (λ (reported : Option (List ℕ)). IfSome reported (λ l. Fills l after count)) took.2 filled in
    let none : drop (length all) bytes ≡ [] = fills.end zero in
    took.1 ∙ (sym (append-nil (take (length all) bytes)) ∙ (ap (λ l. take (length all) bytes ++ l) (sym none) ∙ take-append-drop (length all) bytes))

-- `extend_from_slice(&buf[..count])` that succeeded
pub extended : (ok : Bool) (more all rest buf : List ℕ) (count : ℕ) → more ≡ (if ok then (all ++ take count (buf ++ rest)) else all)
    → ok ≡ true → count ≤ length buf → more ≡ all ++ take count buf
extended true more all rest buf count e succeeds within = e ∙ ap (λ l. all ++ l) (take-append-le count buf rest within)
extended false more all rest buf count e succeeds within = cc
