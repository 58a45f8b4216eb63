-- What puts into one bag make of its account.
use Rattle.std.proofs.Common.{◌≡◌, ◌∙◌, ap, refl, subst, sym, ℕ, ◌+◌, ◌<◌, List, [], ◌∷◌, ◌++◌, length, None, Some}
use Rattle.std.proofs.Common.{Box, Global, append_assoc, arith}
use Rattle.std.specs.Prelude.{sum_by}
use Rattle.std.proofs.lemmas.List.{append-nil}
use Rattle.std.proofs.lemmas.List.Sums.{sum_by-append}
use Rattle.obim_bags.specs.Chunks.{ChunkSeen}
use Rattle.obim_bags.specs.Logs.{ChangesAt, MirrorSeen, AccessSeen, access_after_put}
use Rattle.obim_pool.specs.declared.chunks.BagChunks.{BagChunks}
use Rattle.obim_pool.specs.Accounts.{Account, AreSame, Puts, account_of, vertices_of}
use Rattle.obim_pool.specs.Held.{held_of, vertices_in}
use Rattle.obim_pool.specs.Steps.{OneBag}
use Rattle.obim_pool.proofs.Lifting.{one_of_held, one_then, one_within}

-- the vertices of one list of chunks and another
pub vertices_append : (xs ys : List ChunkSeen) → vertices_of (xs ++ ys) ≡ vertices_of xs ++ vertices_of ys
vertices_append [] ys = refl
vertices_append (x ∷ xs) ys =
    ap (λ rest. x.vertices ++ rest) (vertices_append xs ys)
    ∙ sym (append_assoc x.vertices (vertices_of xs) (vertices_of ys))

-- a weight of two lists is that of the first and that of the second
weigh_both : (weight : ℕ → ℕ) (xs ys : List ℕ) → sum_by weight (xs ++ ys) ≡ sum_by weight xs + sum_by weight ys
weigh_both weight xs ys = sum_by-append weight xs ys

-- vertices that came to what is held, with no chunk put
pub puts_here : (came : List ℕ) (p : AccessSeen) (held held' : List ℕ) → AreSame held' (came ++ held)
    → Puts came (account_of (Some p) held) (account_of (Some p) held')
puts_here came p held held' same = record {
  chunks = [];
  put = sym (append-nil p.pass.tally.put);
  got = refl;
  account = λ weight.
      omega (arith, same weight, weigh_both weight held' [], weigh_both weight came held, weigh_both weight held came);
}

-- an account that is as before is one to which nothing came
pub puts_nothing : (a b : Account) → b ≡ a → Puts [] a b
puts_nothing a b same = record {
  chunks = [];
  put = ap (λ (x : Account). x.put) same ∙ sym (append-nil a.put);
  got = ap (λ (x : Account). x.got) same;
  account = λ weight. ap (λ (x : Account). sum_by weight (x.held ++ [])) same;
}

-- what was put first and what was put then
pub puts_then : (xs ys : List ℕ) (a b c : Account) → Puts xs a b → Puts ys b c → Puts (xs ++ ys) a c
puts_then xs ys a b c first second = record {
  chunks = first.chunks ++ second.chunks;
  put = second.put
      ∙ (ap (λ (l : List ChunkSeen). l ++ second.chunks) first.put ∙ append_assoc a.put first.chunks second.chunks);
  got = second.got ∙ first.got;
  account = λ weight.
      let one = vertices_of first.chunks in
      let two = vertices_of second.chunks in
      rw vertices_append
      (omega (
        arith,
        first.account weight,
        second.account weight,
        weigh_both weight b.held one,
        weigh_both weight c.held two,
        weigh_both weight c.held (one ++ two),
        weigh_both weight one two,
        weigh_both weight a.held xs,
        weigh_both weight b.held ys,
        weigh_both weight a.held (xs ++ ys),
        weigh_both weight xs ys,
      ));
}

-- two changes of one bag by puts
pub one_puts_then : (xs ys : List ℕ) {place : ℕ} {m1 m2 m3 : MirrorSeen} {k1 k2 k3 : BagChunks}
    → OneBag (Puts xs) place m1 k1 m2 k2
    → OneBag (Puts ys) place m2 k2 m3 k3 → OneBag (Puts (xs ++ ys)) place m1 k1 m3 k3
one_puts_then xs ys first second = one_then (puts_then xs ys) first second

-- vertices came to the two chunks of a bag, and nothing was put
pub one_keeps : (came : List ℕ) (place : ℕ) (m : MirrorSeen) (k k' : BagChunks) → place < length m.accesses
    → AreSame (held_of k') (came ++ held_of k) → OneBag (Puts came) place m k m k'
one_keeps came place m k k' within same =
    one_of_held (Puts came) place m k k' within (λ p. puts_here came p (held_of k) (held_of k') same)

-- where the two chunks of a bag are as before, nothing came
pub one_stays : (place : ℕ) (m : MirrorSeen) (k k' : BagChunks) → place < length m.accesses → held_of k' ≡ held_of k
    → OneBag (Puts []) place m k m k'
one_stays place m k k' within same = one_keeps [] place m k k' within (λ weight. ap (sum_by weight) same)

-- where the filling chunk is put back, nothing came
pub one_put_back : (place : ℕ) (m m' : MirrorSeen) (k k' : BagChunks) → place < length m.accesses
    → k'.filling ≡ k.filling
    → k'.draining ≡ k.draining → m' ≡ m → OneBag (Puts []) place m k m' k'
one_put_back place m m' k k' within filling draining same =
    subst (λ (new : MirrorSeen). OneBag (Puts []) place m k new k') (sym same)
    (one_stays place m k k' within
    (ap (λ o. vertices_in o ++ vertices_in k'.draining) filling
    ∙ ap (λ o. vertices_in k.filling ++ vertices_in o) draining))

-- the filling chunk was put
pub one_hands_on : (place : ℕ) (old new : MirrorSeen) (k k' : BagChunks) (chunk : Box ChunkSeen Global)
    → k.filling ≡ Some chunk
    → k'.filling ≡ None → k'.draining ≡ k.draining → ChangesAt place (access_after_put chunk.value) old new
    → OneBag (Puts []) place old k new k'
one_hands_on place old new k k' chunk filling empty draining put =
    let held : held_of k ≡ chunk.value.vertices ++ vertices_in k.draining =
    ap (λ o. vertices_in o ++ vertices_in k.draining) filling in
    let held' : held_of k' ≡ vertices_in k.draining =
    ap (λ o. vertices_in o ++ vertices_in k'.draining) empty ∙ ap vertices_in draining in
    record {
      was = put.0;
      is = access_after_put chunk.value put.0;
      was_there = put.1;
      is_there = put.2;
      bag = refl;
      change = record {
        chunks = chunk.value ∷ [];
        put = refl;
        got = refl;
        account = λ weight.
            rw (held, held')
            (omega (
              arith,
              weigh_both weight chunk.value.vertices (vertices_in k.draining),
              weigh_both weight chunk.value.vertices [],
              weigh_both weight (vertices_in k.draining) (chunk.value.vertices ++ []),
              weigh_both weight (chunk.value.vertices ++ vertices_in k.draining) [],
            ));
      };
    }

-- a vertex came to the chunks after that
pub one_adds : (v : ℕ) {place : ℕ} {m1 m2 : MirrorSeen} {k1 k2 : BagChunks} (k3 k4 : BagChunks)
    → OneBag (Puts []) place m1 k1 m2 k2
    → held_of k3 ≡ held_of k2 → AreSame (held_of k4) (v ∷ held_of k3) → OneBag (Puts (v ∷ [])) place m1 k1 m2 k4
one_adds v {place} {m1} {m2} {k1} {k2} k3 k4 first same added =
    let came : AreSame (held_of k4) (v ∷ held_of k2) = subst (λ held. AreSame (held_of k4) (v ∷ held)) same added in
    one_puts_then [] (v ∷ []) first (one_keeps (v ∷ []) place m2 k2 k4 (one_within first) came)
