-- The parts of the check are together the rules: from the rules every page's part and every space's counts, and from these the rules.
-- Assumes nothing.
use Prim.Native.Nat.{ℕ, zero, suc, ◌<◌}
use mathlib.Core.Path.{◌≡◌, refl, sym, subst}
use mathlib.Core.Logic.{inl, inr, ⊎_elim}
use native.Mathlib.Omega.{arith}
use Rattle.words.specs.Words.{record_words}
use Rattle.machine.specs.declared.Machine.{Machine}
use Rattle.mapping.specs.Mapping.{index_of}
use Rattle.ledger.specs.Names.{free, space, first_level, second_level, data_page, stopped}
use Rattle.accept.specs.Accept.{Words, Zeros, Is, Blank, PageOk, Tables, SpaceOk, HeaderOk, Rules}
use Rattle.accept.specs.Checks.{Owned, Going, Wiped, FirstLinks, SecondLinks, Reached, Page, Pages, Counts}

module _ (b : Machine) (w m : Words) where
  -- what every page has, by its type
  record Common (p t : ℕ) : Type 0 where
    known : t < 7
    owner : (t ≡ free → ⊥) → (w p 1 < b.pages) × (w (w p 1) 0 ≡ space)
    blank : Blank t → Wiped b m p

  owner_is : (p lo : ℕ) → Owned b w lo p → (w p 1 < b.pages) × (w (w p 1) 0 ≡ space)
  owner_is p lo k = (k.owner, k.is_space)

  table : (t : ℕ) → 2 < t → t < 6 → Blank t → ⊥
  table t l u = ⊎_elim (λ x. omega arith) (λ x. omega arith)

  common : (p t : ℕ) → p < b.pages → w p 0 ≡ t → Page b w m p t → Common p t
  unfolding Page
  common p zero l e x = record { known = omega arith; owner = λ u. absurd (u refl); blank = λ u. x.wiped }
  common p (suc zero) l e x =
      let i = x.layout.itself in
      record { known = omega arith; owner = λ u. (omega arith, rw i e); blank = λ u. x.wiped }
  common p (suc (suc zero)) l e x = record { known = omega arith; owner = λ u. owner_is p 21 x.owned; blank = λ u. x.wiped }
  common p (suc (suc (suc zero))) l e x =
      record { known = omega arith; owner = λ u. owner_is p 2 x.owned; blank = λ u. absurd (table 3 (omega arith) (omega arith) u) }
  common p (suc (suc (suc (suc zero)))) l e x =
      record { known = omega arith; owner = λ u. owner_is p 3 x.owned; blank = λ u. absurd (table 4 (omega arith) (omega arith) u) }
  common p (suc (suc (suc (suc (suc zero))))) l e x =
      record { known = omega arith; owner = λ u. owner_is p 3 x.owned; blank = λ u. absurd (table 5 (omega arith) (omega arith) u) }
  common p (suc (suc (suc (suc (suc (suc zero)))))) l e x =
      record { known = omega arith; owner = λ u. owner_is p 2 x.owned; blank = λ u. x.wiped }
  common p (suc (suc (suc (suc (suc (suc (suc t))))))) l e x = absurd x

  pub page_known : (p : ℕ) → p < b.pages → Page b w m p (w p 0) → w p 0 < 7
  page_known p l x = (common p (w p 0) l refl x).known

module _ (b : Machine) (h : ℕ → ℕ) (w m : Words) where
  -- ---- from the rules
  module _ (ok : Rules b h w m) where
    owned : (p lo : ℕ) → p < b.pages → (w p 0 ≡ free → ⊥) → Zeros (w p) lo record_words → Owned b w lo p
    owned p lo l used z =
        let o = (ok.pages p l).owner used in
        record { owner = o.0; is_space = o.1; rest = z }

    space_of : (p lo : ℕ) → Owned b w lo p → SpaceOk b w m (w p 1)
    space_of p lo k = ok.spaces (w p 1) k.owner k.is_space

    first_links : (p : ℕ) → Is b w (w p 1) first_level p → Tables b w m (w p 1) → FirstLinks b w m (w p 1) p
    first_links p is t =
        let e : p ≡ w (w p 1) 2 = t.only p is in
        record {
          only = sym e;
          names = λ i l. record { table = λ T v. t.names i T l (rw (← e) v) };
          rest = λ k l u. rw e (t.rest k l u);
        }

    second_links : (p : ℕ) → Is b w (w p 1) second_level p → Tables b w m (w p 1) → SecondLinks b w m (w p 1) p
    second_links p is t = record { named = t.named p is; slots = λ j l. t.slots p j is l }

    reached : (p : ℕ) → Is b w (w p 1) data_page p → Tables b w m (w p 1) → Reached b w m (w p 1) p
    reached p is t =
        let s = t.stands p is in
        record { table = s.table; named = rw (← s.index) (t.named s.table s.is_table); slot = s.slot }

    page : (p t : ℕ) → p < b.pages → w p 0 ≡ t → Page b w m p t
    unfolding Page
    page p zero l e =
        let ly = ok.pages p l in
        record { rest = ly.layout.is_free e; wiped = ly.blank (inl (omega arith)) }
    page p (suc zero) l e =
        let ly = ok.pages p l in
        record { layout = ly.layout.is_space e; wiped = ly.blank (inl (omega arith)); first = λ g. ((ok.spaces p l e).tables g).first }
    page p (suc (suc zero)) l e =
        let ly = ok.pages p l in
        let k = owned p 21 l (λ z. omega arith) (ly.layout.is_thread e).rest in
        record {
          owned = k;
          rules =
              record {
                layout = ly.layout.is_thread e;
                idle = ly.idle e;
                calm = λ g. (space_of p 21 k).calm g p (record { below = l; type = e; own = refl });
              };
          wiped = ly.blank (inl (omega arith));
        }
    page p (suc (suc (suc zero))) l e =
        let k = owned p 2 l (λ z. omega arith) ((ok.pages p l).layout.is_first e) in
        record { owned = k; links = λ g. first_links p (record { below = l; type = e; own = refl }) ((space_of p 2 k).tables g) }
    page p (suc (suc (suc (suc zero)))) l e =
        let ly = (ok.pages p l).layout.is_second e in
        let k = owned p 3 l (λ z. omega arith) ly.1 in
        record {
          owned = k;
          index = ly.0;
          links = λ g. second_links p (record { below = l; type = e; own = refl }) ((space_of p 3 k).tables g);
        }
    page p (suc (suc (suc (suc (suc zero))))) l e =
        let ly = (ok.pages p l).layout.is_data e in
        let k = owned p 3 l (λ z. omega arith) ly.1 in
        record {
          owned = k;
          formed = ly.0;
          links = λ g. reached p (record { below = l; type = e; own = refl }) ((space_of p 3 k).tables g);
        }
    page p (suc (suc (suc (suc (suc (suc zero)))))) l e =
        let ly = ok.pages p l in
        record { owned = owned p 2 l (λ z. omega arith) (ly.layout.is_spare e); wiped = ly.blank (inr e) }
    page p (suc (suc (suc (suc (suc (suc (suc t))))))) l e = let k = (ok.pages p l).layout.known in omega arith

    pub all_pages : Pages b w m
    all_pages p l = page p (w p 0) l refl

    pub all_counts : Counts b.pages w
    all_counts a l e =
        let s = ok.spaces a l e in
        record { pages = s.count; exact = s.blocks; room = s.room }

  -- ---- to the rules
  module _ (pages : Pages b w m) where
    fine : (p t : ℕ) → p < b.pages → w p 0 ≡ t → Page b w m p t
    fine p t l e = subst (Page b w m p) e (pages p l)

    page_ok : (p : ℕ) → p < b.pages → PageOk b w m p
    unfolding Page
    page_ok p l =
        let c = common b w m p (w p 0) l refl (pages p l) in
        record {
          layout =
              record {
                known = c.known;
                is_free = λ e. (fine p 0 l e).rest;
                is_space = λ e. (fine p 1 l e).layout;
                is_thread = λ e. (fine p 2 l e).rules.layout;
                is_first = λ e. (fine p 3 l e).owned.rest;
                is_second = λ e. ((fine p 4 l e).index, (fine p 4 l e).owned.rest);
                is_data = λ e. ((fine p 5 l e).formed, (fine p 5 l e).owned.rest);
                is_spare = λ e. (fine p 6 l e).owned.rest;
              };
          owner = c.owner;
          idle = λ e. (fine p 2 l e).rules.idle;
          blank = c.blank;
        }

    -- a page's part of the tables of a, its owner
    module _ (a : ℕ) (going : w a 3 ≡ stopped → ⊥) where
      owner_going : (p : ℕ) → w p 1 ≡ a → Going w p
      owner_going p o = rw o going

      first : (p : ℕ) → Is b w a first_level p → FirstLinks b w m a p
      unfolding Page
      first p is = subst (λ x. FirstLinks b w m x p) is.own ((fine p 3 is.below is.type).links (owner_going p is.own))

      second : (p : ℕ) → Is b w a second_level p → SecondLinks b w m a p
      unfolding Page
      second p is = subst (λ x. SecondLinks b w m x p) is.own ((fine p 4 is.below is.type).links (owner_going p is.own))

      data_reached : (p : ℕ) → Is b w a data_page p → Reached b w m a p
      unfolding Page
      data_reached p is = subst (λ x. Reached b w m x p) is.own ((fine p 5 is.below is.type).links (owner_going p is.own))

      tables : a < b.pages → w a 0 ≡ space → Tables b w m a
      unfolding Page
      tables l e =
          let is = (fine a 1 l e).first going in
          let f = first (w a 2) is in
          record {
            first = is;
            only = λ q x. sym (first q x).only;
            names = λ i T l v. (f.names i l).table T v;
            named = λ T x. (second T x).named;
            rest = f.rest;
            slots = λ T j x lj. (second T x).slots j lj;
            stands = λ d x.
                let r = data_reached d x in
                let n = (f.names (index_of (w d 2)) (omega arith)).table r.table r.named in
                record { table = r.table; is_table = n.0; index = n.1; slot = r.slot };
          }

    space_ok : (a : ℕ) → a < b.pages → w a 0 ≡ space → Counts b.pages w → SpaceOk b w m a
    unfolding Page
    space_ok a l e counts =
        let c = counts a l e in
        record {
          count = c.pages;
          blocks = c.exact;
          calm = λ g t is. (fine t 2 is.below is.type).rules.calm (rw is.own g);
          room = c.room;
          tables = λ g. tables a g l e;
        }

    pub all_rules : HeaderOk b h w → Counts b.pages w → Rules b h w m
    all_rules header counts = record { header = header; pages = page_ok; spaces = λ a l e. space_ok a l e counts }
