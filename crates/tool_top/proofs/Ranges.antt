-- The numbers of a job that words give are in the ranges of their keys.
use Rattle.std.proofs.Common.{◌≡◌, ◌≤◌, ◌<◌, ℕ, zero, suc, ℤ, pos, negsuc, neg_ℤ, nat_eq, FitsSigned, Bool, true, false, ◌&&◌, leb, if◌then◌else◌, List, [], ◌∷◌, Option, Some, None, option_map, refl, ap, subst, arith, drop, codes, leb-true}
use Rattle.std.specs.Int.{w32}
use Rattle.std.specs.Fmt.{decimal}
use Rattle.std.specs.List.{list_all, starts_with}
use Rattle.std.specs.Option.{option_and_then}
use Rattle.std.specs.Str.{bytes_eq}
use Rattle.std.specs.Str.Parse.{digits_value}
use Rattle.std.proofs.lemmas.Bool.{and_parts}
use Rattle.tool_words.specs.Jobs.{IsInRange, job, one_of, workers_of, steps_of, cells_of, argument_of, classes_of, made_by, job_with, fields_job, settings_job}
use Rattle.tool_words.specs.Words.{command_named, sets_key_of, values_for, number_in, arg_of}
use Rattle.tool_words.specs.declared.command.Command.{Command}
use Rattle.tool_words.specs.declared.job.Job.{Job}
use Rattle.tool_words.specs.declared.key.Key.TheVariants as key
use Rattle.tool_words.specs.declared.key.Mode.{Mode}

some_same : {A : Type 0} {x y : A} → Some x ≡ Some y → x ≡ y
some_same e = cc

if_some : {A : Type 0} (b : Bool) (v n : A) → (if b then Some v else None) ≡ Some n → (b ≡ true) × (v ≡ n)
if_some true v n e = (refl, some_same e)
if_some false v n e = cc

number_within : (least most : ℕ) (text : List ℕ) (n : ℕ) → number_in least most text ≡ Some n → (least ≤ n) × (n ≤ most)
number_within least most text n e =
    let v = digits_value 10 text in
    let w = if_some (bytes_eq (decimal v) text && (leb least v && leb v most)) v n e in
    let tests = and_parts _ _ w.0 in
    let bounds = and_parts _ _ tests.1 in
    let low : least ≤ v = leb-true least v bounds.0 in
    let high : v ≤ most = leb-true v most bounds.1 in
    (subst (λ k. least ≤ k) w.1 low, subst (λ k. k ≤ most) w.1 high)

one_within : (least most default : ℕ) → least ≤ default → default ≤ most → (values : List (List ℕ)) (n : ℕ) → one_of (number_in least most) default values ≡ Some n → (least ≤ n) × (n ≤ most)
one_within least most default low high [] n e = let is = some_same e in (subst (λ k. least ≤ k) is low, subst (λ k. k ≤ most) is high)
one_within least most default low high (value ∷ []) n e = number_within least most value n e
one_within least most default low high (first ∷ second ∷ others) n e = cc

fits_pos : (n : ℕ) → n ≤ 2147483647 → FitsSigned w32 (pos n)
fits_pos n h = omega (arith, h)

fits_neg : (n : ℕ) → n ≤ 2147483648 → FitsSigned w32 (neg_ℤ (pos n))
fits_neg zero h = fits_pos 0 (omega arith)
fits_neg (suc m) h = below m (omega (arith, h))
  where
    below : (m : ℕ) → m < 2147483648 → FitsSigned w32 (negsuc m)
    below m h = omega (arith, h)

made : {A B : Type 0} (f : A → B) (o : Option A) (z : B) → option_map f o ≡ Some z → (x : A) × (o ≡ Some x) × (f x ≡ z)
made f (Some x) z e = (x, refl, some_same e)
made f None z e = cc

arg_fits : (text : List ℕ) (z : ℤ) → arg_of text ≡ Some z → FitsSigned w32 z
arg_fits text z e = by (starts_with nat_eq text (codes "-")) e
  where
    negative : option_map (λ n. neg_ℤ (pos n)) (number_in 1 2147483648 (drop 1 text)) ≡ Some z → FitsSigned w32 z
    negative h =
        let w = made (λ n. neg_ℤ (pos n)) (number_in 1 2147483648 (drop 1 text)) z h in
        subst (λ k. FitsSigned w32 k) w.2 (fits_neg w.0 (number_within 1 2147483648 (drop 1 text) w.0 w.1).1)

    positive : option_map pos (number_in 0 2147483647 text) ≡ Some z → FitsSigned w32 z
    positive h =
        let w = made pos (number_in 0 2147483647 text) z h in
        subst (λ k. FitsSigned w32 k) w.2 (fits_pos w.0 (number_within 0 2147483647 text w.0 w.1).1)

    by : (b : Bool) → (if b then option_map (λ n. neg_ℤ (pos n)) (number_in 1 2147483648 (drop 1 text)) else option_map pos (number_in 0 2147483647 text)) ≡ Some z → FitsSigned w32 z
    by true h = negative h
    by false h = positive h

argument_fits : (values : List (List ℕ)) (z : ℤ) → one_of arg_of (pos 0) values ≡ Some z → FitsSigned w32 z
argument_fits [] z e = subst (λ k. FitsSigned w32 k) (some_same e) (fits_pos 0 (omega arith))
argument_fits (value ∷ []) z e = arg_fits value z e
argument_fits (first ∷ second ∷ others) z e = cc

-- each field of a job is given
record Given (w s c : Option ℕ) (a : Option ℤ) (k : Option ℕ) (asked : Job) : Type 0 where
  pub workers : w ≡ Some asked.workers
  pub steps : s ≡ Some asked.steps
  pub cells : c ≡ Some asked.cells
  pub arg : a ≡ Some asked.arg
  pub n : k ≡ Some asked.n

given_all : (command : Command) (workers steps cells : Option ℕ) (arg : Option ℤ) (n : Option ℕ) (mode : Option Mode) (asked : Job) → job_with command workers steps cells arg n mode ≡ Some asked →
    Given workers steps cells arg n asked
given_all command (Some workers) (Some steps) (Some cells) (Some arg) (Some n) (Some mode) asked e =
    let is = some_same e in
    record {
      workers = ap (λ (j : Job). Some j.workers) is;
      steps = ap (λ (j : Job). Some j.steps) is;
      cells = ap (λ (j : Job). Some j.cells) is;
      arg = ap (λ (j : Job). Some j.arg) is;
      n = ap (λ (j : Job). Some j.n) is;
    }
given_all command None steps cells arg n mode asked e = cc
given_all command (Some workers) None cells arg n mode asked e = cc
given_all command (Some workers) (Some steps) None arg n mode asked e = cc
given_all command (Some workers) (Some steps) (Some cells) None n mode asked e = cc
given_all command (Some workers) (Some steps) (Some cells) (Some arg) None mode asked e = cc
given_all command (Some workers) (Some steps) (Some cells) (Some arg) (Some n) None asked e = cc

fields_within : (words : List (List ℕ)) (command : Command) (asked : Job) → fields_job words command ≡ Some asked → IsInRange asked × FitsSigned w32 asked.arg
fields_within words command asked e =
    let g = given_all command (workers_of words) (steps_of words) (cells_of words) (argument_of words) (classes_of words) (made_by command words) asked e in
    let workers = one_within 1 64 4 (omega arith) (omega arith) (values_for key.Workers words) asked.workers g.workers in
    let steps = one_within 1 20000000 5000000 (omega arith) (omega arith) (values_for key.Steps words) asked.steps g.steps in
    let cells = one_within 1 16777216 1048576 (omega arith) (omega arith) (values_for key.Cells words) asked.cells g.cells in
    let n = one_within 1 200 8 (omega arith) (omega arith) (values_for key.Number words) asked.n g.n in (
      record {
        workers_least = workers.0;
        workers_most = workers.1;
        steps_least = steps.0;
        steps_most = steps.1;
        cells_least = cells.0;
        cells_most = cells.1;
        n_least = n.0;
        n_most = n.1;
      },
      argument_fits (values_for key.Arg words) asked.arg g.arg,
    )

pub words_within : (words : List (List ℕ)) (asked : Job) → job words ≡ Some asked → IsInRange asked × FitsSigned w32 asked.arg
words_within [] asked e = cc
words_within (first ∷ words) asked e = by (command_named first) e
  where
    set : (b : Bool) (command : Command) → (if b then fields_job words command else None) ≡ Some asked → IsInRange asked × FitsSigned w32 asked.arg
    set true command h = fields_within words command asked h
    set false command h = cc

    by : (o : Option Command) → option_and_then (settings_job words) o ≡ Some asked → IsInRange asked × FitsSigned w32 asked.arg
    by None h = cc
    by (Some command) h = set (list_all (sets_key_of command) words) command h
