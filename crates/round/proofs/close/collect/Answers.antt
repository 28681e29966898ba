use Rattle.std.proofs.Common.{◌≡◌, ℕ, ◌+◌, ◌-◌, ◌%◌, ◌<◌, ◌++◌, ◌∷◌, [], List, length, map, Some, rules, arith, sym, ap, ◌∙◌, subst}
use Rattle.std.proofs.lemmas.List.{map-set}
use Rattle.std.proofs.lemmas.Option.{slice_get-get_or}
use Rattle.std.proofs.Math.Nat.{mod-lt}
use Rattle.round.specs.Sittings.{Running}
use Rattle.round.proofs.Lists.{map_at}
use Rattle.round.proofs.Collects.{Taken, lists_by, none_taken, one_taken, one_left, all_taken}
use Rattle.round.proofs.close.collect.Goals as goal

pub loop-taken-init : goal.loop-taken-init
loop-taken-init c =
    let none = none_taken (map (λ v. v.items) c.args.lists.items) c.len-callers.result c.args.requests in
    let all : c.args.requests ≡ c.args.requests - 0 = omega arith in
    (search rules, search rules, subst (λ (x : ℕ × List Running). Taken (map (λ v. v.items) c.args.lists.items) (map (λ v. v.items) c.args.lists.items) c.len-callers.result x.0 c.args.requests x.1) (λ k. (all k, sym c.in_ok-ran.ensures.items k)) none)

pub loop-taken-preserved : goal.loop-taken-preserved
loop-taken-preserved c =
    let i = c.loop-taken.invariant in
    let v = c.index_mut.result.now in
    let callers : ℕ = c.len-callers.result in
    let n : ℕ = c.args.requests - 1 - c.loop-taken.taken in
    let more = c.loop-taken-test.true in
    let next : c.args.requests - c.loop-taken.taken ≡ n + 1 = omega arith in
    let now : n ≡ c.args.requests - (c.loop-taken.taken + 1) = omega arith in
    let ok = c.loop-taken.lists.ok in
    let any : 0 < callers = let some = c.requires.some in let same = i.1 in omega arith in
    let small : n < c.args.requests = omega arith in
    let low : n % callers < callers = mod-lt n any in
    let within : n % callers < length c.loop-taken.lists.items = let same = i.0 in omega arith in
    let there = slice_get-get_or c.loop-taken.lists.items (n % callers) v within ∙ ap (λ x. Some x) (sym c.index_mut.ensures.value) in
    let list = map_at (λ v. v.items) c.loop-taken.lists.items (n % callers) v there ∙ ap (λ l. Some l) c.in-Some.ensures.items in
    let before = map (λ v. v.items) c.args.lists.items in
    let was = subst (λ k. Taken (map (λ v. v.items) c.loop-taken.lists.items) before callers k c.args.requests c.loop-taken.ran.items) next i.2 in
    let one = one_taken (map (λ v. v.items) c.loop-taken.lists.items) before callers n c.args.requests c.loop-taken.ran.items c.pop.new.self.items c.in-Some.running any small low list was in
    let lists = sym (map-set (λ v. v.items) c.loop-taken.lists.items (n % callers) c.pop.new.self) in
    let ran = ap (λ a. c.loop-taken.ran.items ++ a ∷ []) (sym c.into_ran.ensures) ∙ sym c.in_ok-push.ensures.items in
    (i.0, i.1, subst (λ (x : (List (List Running)) × ℕ × List Running). Taken x.0 before callers x.1 c.args.requests x.2) (λ k. (lists k, now k, ran k)) one)

pub returns : goal.returns
returns c = λ f group len are.
    let i = c.loop-taken.invariant in
    let done = c.loop-taken-test.false in
    let none : c.args.requests - c.loop-taken.taken ≡ 0 = omega arith in
    let before = map (λ v. v.items) c.args.lists.items in
    let all = subst (λ k. Taken (map (λ v. v.items) c.loop-taken.lists.items) before c.len-callers.result k c.args.requests c.loop-taken.ran.items) none i.2 in
    c.reverse.ensures.items ∙ all_taken (map (λ v. v.items) c.loop-taken.lists.items) before c.len-callers.result c.args.requests c.loop-taken.ran.items all f group len (are ∙ ap (λ n. lists_by f n group) i.1)

pub unreachable-requires : goal.unreachable-requires
unreachable-requires c =
    let i = c.loop-taken.invariant in
    let v = c.index_mut.result.now in
    let callers : ℕ = c.len-callers.result in
    let n : ℕ = c.args.requests - 1 - c.loop-taken.taken in
    let more = c.loop-taken-test.true in
    let next : c.args.requests - c.loop-taken.taken ≡ n + 1 = omega arith in
    let ok = c.loop-taken.lists.ok in
    let any : 0 < callers = let some = c.requires.some in let same = i.1 in omega arith in
    let small : n < c.args.requests = omega arith in
    let low : n % callers < callers = mod-lt n any in
    let within : n % callers < length c.loop-taken.lists.items = let same = i.0 in omega arith in
    let there = slice_get-get_or c.loop-taken.lists.items (n % callers) v within ∙ ap (λ x. Some x) (sym c.index_mut.ensures.value) in
    let empty : length v.items ≡ 0 = let held = v.ok in let none = c.in_default.ensures.cases.0 in omega arith in
    let was = subst (λ k. Taken (map (λ v. v.items) c.loop-taken.lists.items) (map (λ v. v.items) c.args.lists.items) callers k c.args.requests c.loop-taken.ran.items) next i.2 in
    let dealt = c.requires.dealt in
    one_left _ _ callers n c.args.requests c.loop-taken.ran.items small low was dealt.0 dealt.1 dealt.2 (dealt.3 ∙ ap (λ k. lists_by dealt.0 k dealt.1) i.1)
    v.items (map_at (λ v. v.items) c.loop-taken.lists.items (n % callers) v there) empty
