-- Lines of the demo, over plain variables.
use Rattle.std.proofs.Common.{◌≡◌, ◌≤◌, ◌<◌, ◌+◌, ◌*◌, ℕ, zero, suc, List, [], ◌++◌, length, codes, ap, arith, append_assoc, length-append}
use Rattle.std.specs.Fmt.{decimal}
use Rattle.std.specs.List.{flat_map}
use Rattle.std.proofs.Math.Nat.{mul-suc}
use Rattle.std.proofs.lemmas.Fmt.{length-decimal-le}
use Rattle.std.proofs.lemmas.List.{flat_map_more}
use Rattle.tool_words.specs.Demo.{numbers, class_line, class_lines, demo_text}
use Rattle.tool_words.specs.declared.line.ClassLine.TheVariants as line

-- the pieces of a line, as they are written
pub run-pieces : (k : ℕ) → codes "s" ++ (decimal k ++ (codes " = c" ++ (decimal k ++ codes ".run(100);\n"))) ≡ class_line line.Run k
run-pieces k = simp append_assoc

pub made-pieces : (k : ℕ) → codes "C" ++ (decimal k ++ (codes " c" ++ (decimal k ++ (codes " = new C" ++ (decimal k ++ (codes "(); int s" ++ (decimal k ++ codes " = 0;\n"))))))) ≡ class_line line.Made k
made-pieces k = simp append_assoc

pub declared-pieces : (k : ℕ) → codes "class C" ++ (decimal k
    ++ (codes " { region A; int run(int m) writes A:* { int[]<A:[i]>#i a = new int[m]<A:[i]>#i; foreach (int i in 0, m) { a[i] = i + "
    ++ (decimal k ++ codes "; } int j = 0; int s = 0; while (j < m) { s = s + a[j]; j = j + 1; } return s; } }\n"))) ≡ class_line line.Declared k
declared-pieces k = simp append_assoc

-- a number of a class has three digits at most
digits-few : (k : ℕ) → k < 1000 → length (decimal k) ≤ 3
digits-few k few = length-decimal-le 3 k (omega arith) (omega (arith, few)) (omega (arith, few))

-- lines that have so many bytes at most
lines-few : (f : ℕ → List ℕ) (b n : ℕ) → ((k : ℕ) → k < n → length (f k) ≤ b) → length (flat_map f (numbers n)) ≤ b * n
lines-few f b zero few = omega arith
lines-few f b (suc n) few =
    let whole = ap length (flat_map_more f [] (numbers n) n) in
    let rest : length (flat_map f (numbers n)) ≤ b * n = lines-few f b n (λ k lt. few k (omega (arith, lt))) in
    let last : length (f n) ≤ b = few n (omega arith) in
    omega (arith, whole, length-append (flat_map f (numbers n)) (f n), rest, last, mul-suc b n)

declared-few : (k : ℕ) → k < 1000 → length (class_line line.Declared k) ≤ 214
declared-few k few = simp length-append (omega (arith, digits-few k few))

made-few : (k : ℕ) → k < 1000 → length (class_line line.Made k) ≤ 38
made-few k few = simp length-append (omega (arith, digits-few k few))

run-few : (k : ℕ) → k < 1000 → length (class_line line.Run k) ≤ 22
run-few k few = simp length-append (omega (arith, digits-few k few))

added-few : (k : ℕ) → k < 1000 → length (class_line line.Added k) ≤ 14
added-few k few = simp length-append (omega (arith, digits-few k few))

-- the whole text is short
pub demo-short : (n : ℕ) → n ≤ 200 → length (demo_text n) ≤ 68 + 288 * n
demo-short n few =
    let declared : length (class_lines line.Declared n) ≤ 214 * n = lines-few (class_line line.Declared) 214 n (λ k lt. declared-few k (omega (arith, lt, few))) in
    let made : length (class_lines line.Made n) ≤ 38 * n = lines-few (class_line line.Made) 38 n (λ k lt. made-few k (omega (arith, lt, few))) in
    let run : length (class_lines line.Run n) ≤ 22 * n = lines-few (class_line line.Run) 22 n (λ k lt. run-few k (omega (arith, lt, few))) in
    let added : length (class_lines line.Added n) ≤ 14 * n = lines-few (class_line line.Added) 14 n (λ k lt. added-few k (omega (arith, lt, few))) in
    simp length-append (omega (arith, declared, made, run, added))
