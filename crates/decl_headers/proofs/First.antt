-- The four looks at the classes, one after the other.
use Rattle.std.proofs.Common.{◌≡◌, ℕ, List, [], ◌++◌, map, Option, sym, ap, ◌∙◌}
use mathlib.Core.Path.{fun_ext}
use Rattle.syntax_tree.specs.declared.class.Class.{Class}
use Rattle.decl_headers.specs.declared.faults.Faults.{Faults}
use Rattle.decl_headers.specs.Faults.{all_noted}
use Rattle.decl_headers.specs.First.{class_named, parents_in, first_faults}
use Rattle.decl_headers.specs.Passes.{second_classes, named_parent, unknown_parents, has_constructor, cycles, closed_parents}
use Rattle.decl_headers.specs.Rounds.{is_round}
use Rattle.decl_headers.proofs.Noting.{noted_append}

pub parents_named : (classes : List Class) (named : ℕ → Option ℕ) → ((name : ℕ) → named name ≡ class_named classes name) → map (named_parent named) classes ≡ parents_in classes
parents_named classes named same = ap (λ f. map (named_parent f) classes) (fun_ext same)

pub noted_first : (classes : List Class) (named : ℕ → Option ℕ) (parents : List (Option ℕ)) (start second unknown round new : Faults) → ((name : ℕ) → named name ≡ class_named classes name) → parents ≡ map (named_parent named) classes → second ≡ all_noted start (second_classes [] classes) → unknown ≡ all_noted second (unknown_parents named classes) → round ≡ all_noted unknown (cycles (is_round parents) 0 classes) → new ≡ all_noted round (closed_parents (map has_constructor classes) classes parents) → new ≡ all_noted start (first_faults classes)
noted_first classes named parents start second unknown round new same are a b c d =
    let known : parents ≡ parents_in classes = are ∙ parents_named classes named same in
    let unknowns = unknown_parents (class_named classes) classes in
    let rounded = cycles (is_round (parents_in classes)) 0 classes in
    let closed = closed_parents (map has_constructor classes) classes (parents_in classes) in
    d
    ∙ ap (λ f. all_noted f (closed_parents (map has_constructor classes) classes parents)) (c ∙ ap (λ f. all_noted f (cycles (is_round parents) 0 classes)) (b ∙ ap (λ f. all_noted f (unknown_parents named classes)) a))
    ∙ ap (λ ps. all_noted (all_noted (all_noted (all_noted start (second_classes [] classes)) (unknown_parents named classes)) (cycles (is_round ps) 0 classes)) (closed_parents (map has_constructor classes) classes ps)) known
    ∙ ap (λ f. all_noted (all_noted (all_noted (all_noted start (second_classes [] classes)) (unknown_parents f classes)) rounded) closed) (fun_ext same)
    ∙ sym (noted_append (all_noted (all_noted start (second_classes [] classes)) unknowns) rounded closed)
    ∙ sym (noted_append (all_noted start (second_classes [] classes)) unknowns (rounded ++ closed))
    ∙ sym (noted_append start (second_classes [] classes) (unknowns ++ (rounded ++ closed)))
