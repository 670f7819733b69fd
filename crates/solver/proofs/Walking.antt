-- One step more of a walk along the parents. Assumes nothing.
use Rattle.std.proofs.Common.{◌≡◌, ℕ, zero, suc, ◌+◌, ◌-◌, ◌<◌, ◌≤◌, ◌≢◌, ◌⊎◌, List, length, set, sym, refl, ap, ◌∙◌, inl, inr, ⊎_elim, arith}
use Rattle.std.proofs.lemmas.List.{get_or-set_same, get_or-set_other, length-set}
use Rattle.std.proofs.lemmas.Bool.{cases_eq}
use Rattle.solver.specs.declared.arcs.Arcs.{Arcs}
use Rattle.solver.specs.Rising.{time_at, Raised, Rising, parent_of}
use Rattle.solver.specs.Walks.{tally, before, ups, Rooted, Comes, RingAt, AllRooted}
use Rattle.solver.proofs.Lows.{lows}
use Rattle.solver.proofs.Tallies.{tally_bound, tally_more}

module _ (arcs : Arcs) (t par : ℕ → ℕ) (S : ℕ) where
  -- what is known in the midst of a walk from the event `from`, at the event at
  pub record Midway (marks₀ marks : List ℕ) (from at : ℕ) : Type 0 where
    pub inside : at ≤ arcs.events
    pub long : length marks ≡ 1024
    pub begun : (at ≡ from) ⊎ (1 ≤ time_at marks (from))
    pub grown : tally (time_at marks₀) (arcs.events + 1) ≤ tally (time_at marks) (arcs.events + 1)
    pub kept : (x : ℕ) → 1 ≤ time_at marks₀ x → time_at marks x ≡ time_at marks₀ x
    pub ids : (x : ℕ) → time_at marks x ≤ (from + 1)
    pub others : (x : ℕ) → x ≤ arcs.events → 1 ≤ time_at marks x → (time_at marks x ≡ (from + 1) → ⊥) → Rooted arcs t par S (tally (time_at marks₀) (arcs.events + 1)) x
    pub mine : (x : ℕ) → x ≤ arcs.events → time_at marks x ≡ (from + 1) → Comes arcs t par at (tally (time_at marks₀) (arcs.events + 1)) (tally (time_at marks) (arcs.events + 1)) x

-- the walks from the events below e are done
pub record Seen (arcs : Arcs) (t par : ℕ → ℕ) (S : ℕ) (marks : List ℕ) (e : ℕ) : Type 0 where
  pub long : length marks ≡ 1024
  pub ids : (x : ℕ) → time_at marks x < e + 1
  pub rooted : AllRooted arcs t par S marks
  pub marked : (x : ℕ) → x < e → 1 ≤ time_at marks x

module _ (arcs : Arcs) (t par : ℕ → ℕ) (S : ℕ) where
  pub seen_none : (marks : List ℕ) → length marks ≡ 1024 → ((x : ℕ) → time_at marks x ≡ 0) → Seen arcs t par S marks 0
  seen_none marks long none = record {
    long = long;
    ids = λ x. let y = none x in omega arith;
    rooted = λ x hx some. absurd (let y = none x in omega arith);
    marked = λ x h. absurd (omega arith);
  }

  pub seen_more : (marks marks' : List ℕ) (e : ℕ) → Seen arcs t par S marks e → length marks' ≡ 1024 → AllRooted arcs t par S marks' → 1 ≤ time_at marks' e → ((x : ℕ) → 1 ≤ time_at marks x → 1 ≤ time_at marks' x) → ((x : ℕ) → time_at marks' x ≤ e + 1) → Seen arcs t par S marks' (e + 1)
  seen_more marks marks' e so long rooted here kept ids = record {
    long = long;
    ids = λ x. let y = ids x in omega arith;
    rooted = rooted;
    marked = λ x h. ⊎_elim (λ (same : x ≡ e). let y = ap (time_at marks') same in omega arith) (λ (other : x ≡ e → ⊥). kept x (so.marked x (omega arith))) (cases_eq x e);
  }

  pub seen_all : (marks : List ℕ) (e : ℕ) → Seen arcs t par S marks e → arcs.events + 1 ≤ e → (x : ℕ) → x ≤ arcs.events → Rooted arcs t par S (arcs.events + 1) x
  seen_all marks e so past x hx =
      let r = so.rooted x hx (so.marked x (omega arith)) in
      let few = tally_bound (time_at marks) (arcs.events + 1) in
      record { steps = r.steps; few = omega (arith, r.few); root = r.root; early = r.early }

module _ (arcs : Arcs) (start t par : ℕ → ℕ) (rising : Rising arcs start t par)
    (S : ℕ) (starts : (e : ℕ) → e ≤ arcs.events → start e ≤ S) where
  up : ℕ → ℕ → ℕ
  up = ups arcs t par

  ups_add : (k j x : ℕ) → ups arcs t par (k + j) x ≡ ups arcs t par j (ups arcs t par k x)
  unfolding ups
  ups_add k zero x = ap (λ n. ups arcs t par n x) (omega arith)
  ups_add k (suc j) x =
      let one : k + suc j ≡ suc (k + j) = omega arith in
      ap (λ n. ups arcs t par n x) one ∙ ap (before arcs t par) (ups_add k j x)

  pub ups_one : (k x : ℕ) → ups arcs t par (k + 1) x ≡ before arcs t par (ups arcs t par k x)
  unfolding ups
  ups_one k x = let one : k + 1 ≡ suc k = omega arith in ap (λ n. ups arcs t par n x) one

  pub ups_zero : (x : ℕ) → ups arcs t par 0 x ≡ x
  unfolding ups
  ups_zero x = refl

  -- a raised event
  pub was_raised : (e : ℕ) → e ≤ arcs.events → 1 ≤ par e → Raised arcs rising.order t par e
  was_raised e h some = ⊎_elim
      (λ (root : (par e ≡ 0) × (t e ≡ start e)). absurd (omega (arith, root.0)))
      (λ (was : Raised arcs rising.order t par e). was)
      (rising.held e h)

  -- an event that was never raised
  pub at_start : (e : ℕ) → e ≤ arcs.events → par e ≡ 0 → t e ≤ S
  at_start e h none = ⊎_elim
      (λ (root : (par e ≡ 0) × (t e ≡ start e)). let x = starts e h in omega (arith, root.1))
      (λ (was : Raised arcs rising.order t par e). absurd (omega (arith, was.some)))
      (rising.held e h)

  pub before_inside : (e : ℕ) → e ≤ arcs.events → 1 ≤ par e → before arcs t par e ≤ arcs.events
  before_inside e h some = let was = was_raised e h some in (lows arcs (par e - 1) (omega (arith, was.low))).0

  pub parent_low : (e : ℕ) → e ≤ arcs.events → 1 ≤ par e → par e ≤ arcs.count
  parent_low e h some = (was_raised e h some).low

  -- a raised event is at most 99,999 days after the one before it
  near : (e : ℕ) → e ≤ arcs.events → 1 ≤ par e → t e ≤ t (before arcs t par e) + 99999
  near e h some =
      let was = was_raised e h some in
      let low = lows arcs (par e - 1) (omega (arith, was.low)) in
      ⊎_elim
      (λ (less : t e + (parent_of arcs par e).down < t (parent_of arcs par e).left + (parent_of arcs par e).up). omega (arith, low.1.1.0))
      (λ (same : (t e + (parent_of arcs par e).down ≡ t (parent_of arcs par e).left + (parent_of arcs par e).up) × (rising.order (parent_of arcs par e).left < rising.order e)). omega (arith, low.1.1.0, same.0))
      was.gains

  pub midway_none : (marks : List ℕ) (from : ℕ) → from ≤ arcs.events → length marks ≡ 1024 → ((x : ℕ) → time_at marks x < (from + 1)) → AllRooted arcs t par S marks → Midway arcs t par S marks marks from from
  midway_none marks from h long ids rooted = record {
    inside = h;
    long = long;
    begun = inl refl;
    grown = omega arith;
    kept = λ x some. refl;
    ids = λ x. let y = ids x in omega arith;
    others = λ x hx some other. rooted x hx some;
    mine = λ x hx same. absurd (let y = ids x in omega arith);
  }

  module _ (marks₀ marks : List ℕ) (from at : ℕ) (mid : Midway arcs t par S marks₀ marks from at) (unmarked : time_at marks at ≡ 0) where
    abbrev marks' : List ℕ
    marks' = set marks at (from + 1)

    here : time_at marks' at ≡ (from + 1)
    here = get_or-set_same marks at (from + 1) 0 (omega (arith, mid.inside, mid.long, arcs.small))

    there : (x : ℕ) → (x ≡ at → ⊥) → time_at marks' x ≡ time_at marks x
    there x n = let ne : x ≢ at = n in get_or-set_other marks at x (from + 1) 0 ne

    pub one_more : tally (time_at marks') (arcs.events + 1) ≡ tally (time_at marks) (arcs.events + 1) + 1
    one_more = tally_more (time_at marks) (time_at marks') (arcs.events + 1) at (omega (arith, mid.inside)) unmarked (omega (arith, here)) there

    pub room : tally (time_at marks) (arcs.events + 1) < arcs.events + 1
    room = let x = tally_bound (time_at marks') (arcs.events + 1) in omega (arith, one_more)

    kept' : (x : ℕ) → 1 ≤ time_at marks₀ x → time_at marks' x ≡ time_at marks₀ x
    kept' x some = ⊎_elim
        (λ (same : x ≡ at). absurd (let y = mid.kept x some in let z = ap (time_at marks) same in omega arith))
        (λ (other : x ≡ at → ⊥). there x other ∙ mid.kept x some)
        (cases_eq x at)

    ids' : (x : ℕ) → time_at marks' x ≤ (from + 1)
    ids' x = ⊎_elim
        (λ (same : x ≡ at). let y = ap (time_at marks') same in omega (arith, here))
        (λ (other : x ≡ at → ⊥). let y = there x other in let z = mid.ids x in omega arith)
        (cases_eq x at)

    others' : (x : ℕ) → x ≤ arcs.events → 1 ≤ time_at marks' x → (time_at marks' x ≡ (from + 1) → ⊥) → Rooted arcs t par S (tally (time_at marks₀) (arcs.events + 1)) x
    others' x hx some other = ⊎_elim
        (λ (same : x ≡ at). absurd (other (ap (time_at marks') same ∙ here)))
        (λ (apart : x ≡ at → ⊥). let y = there x apart in mid.others x hx (omega arith) (λ z. other (y ∙ z)))
        (cases_eq x at)

    -- the walk ends at an event that was never raised
    rooted_mine : par at ≡ 0 → (x : ℕ) → x ≤ arcs.events → time_at marks' x ≡ (from + 1) → Rooted arcs t par S (tally (time_at marks') (arcs.events + 1)) x
    rooted_mine none x hx same = ⊎_elim
        (λ (e : x ≡ at). record {
          steps = 0;
          few = omega (arith, one_more);
          root = ap par (ups_zero x ∙ e) ∙ none;
          early = (let y = at_start at mid.inside none in let z = ap t e in omega arith);
        })
        (λ (apart : x ≡ at → ⊥).
        let c = mid.mine x hx (sym (there x apart) ∙ same) in
        record {
          steps = c.steps;
          few = omega (arith, one_more, c.few);
          root = ap par c.there ∙ none;
          early = (let y = at_start at mid.inside none in omega (arith, c.early));
        })
        (cases_eq x at)

    begun' : 1 ≤ time_at marks' (from)
    begun' = ⊎_elim
        (λ (same : from ≡ at). let y = ap (time_at marks') same in omega (arith, here))
        (λ (other : from ≡ at → ⊥). ⊎_elim
        (λ (own : at ≡ from). absurd (other (sym own)))
        (λ (was : 1 ≤ time_at marks (from)). let y = there (from) other in omega arith)
        mid.begun)
        (cases_eq (from) at)

    rooted_others : (x : ℕ) → Rooted arcs t par S (tally (time_at marks₀) (arcs.events + 1)) x → Rooted arcs t par S (tally (time_at marks') (arcs.events + 1)) x
    rooted_others x r = record { steps = r.steps; few = omega (arith, r.few, one_more, mid.grown); root = r.root; early = r.early }

    rooted_end : par at ≡ 0 → AllRooted arcs t par S marks'
    rooted_end none x hx some = ⊎_elim
        (λ (same : time_at marks' x ≡ (from + 1)). rooted_mine none x hx same)
        (λ (other : time_at marks' x ≡ (from + 1) → ⊥). rooted_others x (others' x hx some other))
        (cases_eq (time_at marks' x) (from + 1))

    pub walked_end : par at ≡ 0 → AllRooted arcs t par S marks' × ((1 ≤ time_at marks' (from)) × (((x : ℕ) → 1 ≤ time_at marks₀ x → 1 ≤ time_at marks' x) × ((x : ℕ) → time_at marks' x ≤ (from + 1))))
    walked_end none = (rooted_end none, (begun', ((λ x some. let y = kept' x some in omega arith), ids')))

    -- the walk goes on
    module _ (some : 1 ≤ par at) where
      mine' : (x : ℕ) → x ≤ arcs.events → time_at marks' x ≡ (from + 1) → Comes arcs t par (before arcs t par at) (tally (time_at marks₀) (arcs.events + 1)) (tally (time_at marks') (arcs.events + 1)) x
      mine' x hx same = ⊎_elim
          (λ (e : x ≡ at). record {
            steps = 1;
            some = omega arith;
            few = omega (arith, one_more, mid.grown);
            there = (let z : ◌≡◌ {A = ℕ} 1 (0 + 1) = omega arith in ap (λ n. ups arcs t par n x) z ∙ ups_one 0 x ∙ ap (before arcs t par) (ups_zero x ∙ e));
            raised = λ i h. (let z : i ≡ 0 = omega arith in let w = ap par (ap (λ n. ups arcs t par n x) z ∙ ups_zero x ∙ e) in omega arith);
            early = (let y = near at mid.inside some in let z = ap t e in omega arith);
          })
          (λ (apart : x ≡ at → ⊥).
          let c = mid.mine x hx (sym (there x apart) ∙ same) in
          record {
            steps = c.steps + 1;
            some = omega arith;
            few = omega (arith, one_more, c.few);
            there = ups_one c.steps x ∙ ap (before arcs t par) c.there;
            raised = λ i h. ⊎_elim
                (λ (last : i ≡ c.steps). let w = ap par (ap (λ n. ups arcs t par n x) last ∙ c.there) in omega arith)
                (λ (early : i ≡ c.steps → ⊥). c.raised i (omega arith))
                (cases_eq i c.steps);
            early = (let y = near at mid.inside some in omega (arith, c.early));
          })
          (cases_eq x at)

      pub midway_next : Midway arcs t par S marks₀ marks' from (before arcs t par at)
      midway_next = record {
        inside = before_inside at mid.inside some;
        long = length-set marks at (from + 1) ∙ mid.long;
        begun = inr begun';
        grown = omega (arith, one_more, mid.grown);
        kept = kept';
        ids = ids';
        others = others';
        mine = mine';
      }

  -- the walk came to a marked event
  module _ (marks₀ marks : List ℕ) (from at : ℕ) (mid : Midway arcs t par S marks₀ marks from at) (marked : 1 ≤ time_at marks at) where
    pub ring_found : time_at marks at ≡ (from + 1) → RingAt arcs t par at
    ring_found same =
        let c = mid.mine at mid.inside same in
        let few = tally_bound (time_at marks) (arcs.events + 1) in
        record { inside = mid.inside; steps = c.steps; some = c.some; few = omega (arith, c.few); back = c.there; raised = c.raised }

    module _ (other : time_at marks at ≡ (from + 1) → ⊥) where
      end : Rooted arcs t par S (tally (time_at marks₀) (arcs.events + 1)) at
      end = mid.others at mid.inside marked other

      rooted_mine' : (x : ℕ) → x ≤ arcs.events → time_at marks x ≡ (from + 1) → Rooted arcs t par S (tally (time_at marks) (arcs.events + 1)) x
      rooted_mine' x hx same =
          let c = mid.mine x hx same in
          let r = end in
          record {
            steps = c.steps + r.steps;
            few = omega (arith, c.few, r.few);
            root = ap par (ups_add c.steps r.steps x ∙ ap (ups arcs t par r.steps) c.there) ∙ r.root;
            early = omega (arith, c.early, r.early);
          }

      rooted_joined : AllRooted arcs t par S marks
      rooted_joined x hx some = ⊎_elim
          (λ (same : time_at marks x ≡ (from + 1)). rooted_mine' x hx same)
          (λ (apart : time_at marks x ≡ (from + 1) → ⊥). let r = mid.others x hx some apart in record { steps = r.steps; few = omega (arith, r.few, mid.grown); root = r.root; early = r.early })
          (cases_eq (time_at marks x) (from + 1))

      pub walked_joined : AllRooted arcs t par S marks × ((1 ≤ time_at marks (from)) × (((x : ℕ) → 1 ≤ time_at marks₀ x → 1 ≤ time_at marks x) × ((x : ℕ) → time_at marks x ≤ (from + 1))))
      walked_joined = (rooted_joined, (⊎_elim (λ (own : at ≡ from). let y = ap (time_at marks) own in omega arith) (λ (was : 1 ≤ time_at marks (from)). was) mid.begun, ((λ x some. let y = mid.kept x some in omega arith), mid.ids)))
