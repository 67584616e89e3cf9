-- Each sample is what its run answers.
use Rattle.std.proofs.Common.{◌≡◌, suc, List, [], ◌∷◌, ◌++◌, length, refl}
use Rattle.lang_base.specs.declared.place.Place.{Place}
use Rattle.lang_base.specs.declared.refusal.Kind.{Kind}
use Rattle.lang_base.specs.declared.refusal.Kind.TheVariants as kind
use Rattle.syntax_tokens.specs.declared.terminal.Placed.{Placed}
use Rattle.syntax_tokens.specs.declared.terminal.Terminal.{Terminal}
use Rattle.syntax_grammar.specs.Expecting.{part}
use Rattle.syntax_grammar.specs.Expecting.{Part as p}
use Rattle.syntax_grammar.specs.Refusing.{at_start, IsWithin, IsRefusedIn}
use Rattle.syntax_grammar.specs.Samples.{line, line_from, start_after, IsRead, IsRefusedAfter, IsMost, Samples}
use Rattle.syntax_grammar.proofs.meant.MeantPaths.{nowhere}
use Rattle.syntax_grammar.proofs.Refused.{refused_once, not_refused, read_derives}
use Rattle.syntax_grammar.proofs.Runs.{Run, read, stopped, run, within_by, stops_by}

-- a text, from its start
abbrev run_text : List Terminal → Run
run_text text = run 1000 at_start (part p.program ∷ []) (line text)

is_read : (text : List Terminal) → run_text text ≡ read at_start [] → IsRead text
is_read text e =
    let all : IsWithin (line text) = (at_start, within_by 1000 e) in
    record { within = all; derives = read_derives all }

is_refused : (front back : List Terminal) (why : Kind) → run_text (front ++ back) ≡ stopped why (line_from (suc (length front)) back) → IsRefusedAfter front back why
is_refused front back why e =
    let list : List Placed = line (front ++ back) in
    let refused : (end : Place) → IsRefusedIn list end (record { kind = why; place = start_after front back end }) = λ end. record { here = line_from (suc (length front)) back; stops = stops_by 1000 e; place = refl } in
    record {
      refused = refused;
      once = λ end refusal r. refused_once list end refusal _ r (refused end);
      not_read = not_refused list nowhere _ (refused nowhere);
    }

is_most : (front next ending : List Terminal) → run_text (front ++ ending) ≡ read at_start [] → run_text (front ++ (next ++ ending)) ≡ stopped kind.Nest (line_from (suc (length front)) (next ++ ending)) → IsMost front next ending
is_most front next ending e f = record { read = is_read (front ++ ending) e; refused = is_refused front (next ++ ending) kind.Nest f }

pub samples : Samples
samples = record {
  whole = is_read _ refl;
  unclosed = is_refused _ _ _ refl;
  cut_off = is_refused _ _ _ refl;
  deep = is_read _ refl;
  too_deep = is_refused _ _ _ refl;
  deep_index = is_read _ refl;
  too_deep_index = is_refused _ _ _ refl;
  bare = is_read _ refl;
  too_bare = is_refused _ _ _ refl;
  otherwise = is_read _ refl;
  too_often_otherwise = is_refused _ _ _ refl;
  blocks_in_order = is_read _ refl;
  bodies_in_order = is_read _ refl;
  operators = is_most _ _ _ refl refl;
  inner_operators = is_most _ _ _ refl refl;
  signs = is_most _ _ _ refl refl;
  dots = is_most _ _ _ refl refl;
  elements = is_most _ _ _ refl refl;
  assigned_field = is_most _ _ _ refl refl;
  assigned_element = is_most _ _ _ refl refl;
  field_type = is_most _ _ _ refl refl;
  local_type = is_most _ _ _ refl refl;
  type_of_path = is_most _ _ _ refl refl;
  array = is_read _ refl;
  too_long_array = is_refused _ _ _ refl;
  long_path = is_read _ refl;
  too_long_path = is_refused _ _ _ refl;
}
