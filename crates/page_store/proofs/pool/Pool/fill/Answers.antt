use Rattle.std.proofs.Common.{◌≡◌, ℕ, ◌-◌, List, [], true, false, take, nat_eq, sym, ap, subst, is_some, rules, ◌∙◌}
use Rattle.std.specs.Cmp.{nat_eq_equiv}
use Rattle.std.specs.Map.{lookup}
use Rattle.outside_traits.specs.Moments.{History}
use Rattle.lru.specs.LruCache.{LruCache, promoted}
use Rattle.lru.proofs.CallerLemmas.{lookup-put_entries}
use Rattle.page_store.specs.Pages.{ArePagesOf, PoolView, is_kept, with_room}
use Rattle.page_store.proofs.KeptLaws.{kept_at_err, kept_promoted, kept_put, pages_promoted, pages_put, room_promoted, there_promoted}
use Rattle.page_store.proofs.pool.Pool.fill.Goals as goal

pub returns-then-promote-clause-pages : goal.returns-then-promote-clause-pages
returns-then-promote-clause-pages g c known =
    let file = (g.P.Disk.history c.args.disk.now).now.reads in
    subst (λ (x : LruCache ℕ (List ℕ)). ArePagesOf file x.entries) (sym c.promote.ensures.entries)
    (pages_promoted file c.args.page c.self.inside.frames.entries (subst (λ (v : PoolView). ArePagesOf file v.kept) (sym c.self.view_is) (c.requires.pages known)))

pub returns-then-promote-clause-filled : goal.returns-then-promote-clause-filled
returns-then-promote-clause-filled g c = record {
  reads = search rules;
  there =
      subst (λ (x : LruCache ℕ (List ℕ)). is_some (lookup (nat_eq c.args.page) x.entries) ≡ true) (sym c.promote.ensures.entries)
      (there_promoted c.args.page c.self.inside.frames.entries (sym c.if-promote.ensures.value));
}

pub returns-in_err-frame-clause-pages : goal.returns-in_err-frame-clause-pages
returns-in_err-frame-clause-pages g c known =
    let file = (g.P.Disk.history c.args.disk.now).now.reads in
    let promoted = subst (λ (x : LruCache ℕ (List ℕ)). ArePagesOf file x.entries) (sym c.promote.ensures.entries)
    (pages_promoted file c.args.page c.self.inside.frames.entries (subst (λ (v : PoolView). ArePagesOf file v.kept) (sym c.self.view_is) (c.requires.pages known))) in
    c.spare.ensures.kept file promoted

pub returns-in_err-read-clause-pages : goal.returns-in_err-read-clause-pages
returns-in_err-read-clause-pages g c known =
    let file = (g.P.Disk.history c.args.disk.now).now.reads in
    let promoted = subst (λ (x : LruCache ℕ (List ℕ)). ArePagesOf file x.entries) (sym c.promote.ensures.entries)
    (pages_promoted file c.args.page c.self.inside.frames.entries (subst (λ (v : PoolView). ArePagesOf file v.kept) (sym c.self.view_is) (c.requires.pages known))) in
    subst (λ (f : List ℕ). ArePagesOf f c.self-2.inside.frames.entries) (sym (ap (λ (h : History). h.now.reads) (c.read.ensures.same known)))
    (subst (λ (v : PoolView). ArePagesOf file v.kept) (sym c.self-2.view_is) (c.spare.ensures.kept file promoted))

pub returns-in_err-put-clause-pages : goal.returns-in_err-put-clause-pages
returns-in_err-put-clause-pages g c known =
    let file = (g.P.Disk.history c.args.disk.now).now.reads in
    let promoted = subst (λ (x : LruCache ℕ (List ℕ)). ArePagesOf file x.entries) (sym c.promote.ensures.entries)
    (pages_promoted file c.args.page c.self.inside.frames.entries (subst (λ (v : PoolView). ArePagesOf file v.kept) (sym c.self.view_is) (c.requires.pages known))) in
    subst (λ (f : List ℕ). ArePagesOf f c.put.new.self.entries) (sym (ap (λ (h : History). h.now.reads) (c.read.ensures.same known)))
    (subst (λ (x : LruCache ℕ (List ℕ)). ArePagesOf file x.entries) (sym c.in_err-put.ensures.err)
    (subst (λ (v : PoolView). ArePagesOf file v.kept) (sym c.self-2.view_is) (c.spare.ensures.kept file promoted)))

pub returns-clause-pages : goal.returns-clause-pages
returns-clause-pages g c known =
    let file = (g.P.Disk.history c.args.disk.now).now.reads in
    let promoted = subst (λ (x : LruCache ℕ (List ℕ)). ArePagesOf file x.entries) (sym c.promote.ensures.entries)
    (pages_promoted file c.args.page c.self.inside.frames.entries (subst (λ (v : PoolView). ArePagesOf file v.kept) (sym c.self.view_is) (c.requires.pages known))) in
    subst (λ (f : List ℕ). ArePagesOf f c.put.new.self.entries) (sym (ap (λ (h : History). h.now.reads) (c.read.ensures.same known)))
    (subst (λ (x : LruCache ℕ (List ℕ)). ArePagesOf file x.entries) (sym c.in_ok-put.ensures.entries)
    (pages_put file c.self-2.inside.frames c.args.page c.read.new.self (subst (λ (v : PoolView). ArePagesOf file v.kept) (sym c.self-2.view_is) (c.spare.ensures.kept file promoted)) (c.in_ok-read.ensures.value known)))

pub returns-clause-filled : goal.returns-clause-filled
returns-clause-filled g c = record {
  reads = search rules;
  there =
      subst (λ (x : LruCache ℕ (List ℕ)). is_some (lookup (nat_eq c.args.page) x.entries) ≡ true) (sym c.in_ok-put.ensures.entries)
      (ap is_some (lookup-put_entries nat_eq c.self-2.inside.frames c.args.page c.read.new.self nat_eq_equiv));
}

pub returns-then-promote-clause-after : goal.returns-then-promote-clause-after
returns-then-promote-clause-after g c = record {
  asked = search rules;
  pages = (
    [],
    ap (λ (x : LruCache ℕ (List ℕ)). x.entries) c.promote.ensures.entries
        ∙ ap (λ (v : PoolView). promoted (nat_eq c.args.page) v.kept) c.self.view_is
        ∙ kept_promoted c.args.page [] c.args.self.now (subst (λ (v : PoolView). is_kept c.args.page v ≡ true) c.self.view_is (sym c.if-promote.ensures.value)),
  );
}

pub returns-in_err-frame-clause-after : goal.returns-in_err-frame-clause-after
returns-in_err-frame-clause-after g c = record {
  asked = search rules;
  pages =
      kept_at_err _ c.args.page c.args.self.now c.spare.new.self.kept c.from_residual.result c.from_residual.ensures.1
      (c.spare.ensures.room ∙ subst (λ (v : PoolView). take (c.promote.new.self.cap - 1) c.promote.new.self.entries ≡ with_room v) c.self.view_is
      (room_promoted c.args.page c.self.inside.frames c.promote.new.self (sym c.if-promote.ensures.value) c.promote.ensures.entries));
}

pub returns-in_err-read-clause-after : goal.returns-in_err-read-clause-after
returns-in_err-read-clause-after g c = record {
  asked = search rules;
  pages =
      kept_at_err _ c.args.page c.args.self.now c.self-2.inside.frames.entries c.from_residual-in_err-read.result c.from_residual-in_err-read.ensures.1
      (ap (λ (v : PoolView). v.kept) c.self-2.view_is ∙ c.spare.ensures.room
      ∙ subst (λ (v : PoolView). take (c.promote.new.self.cap - 1) c.promote.new.self.entries ≡ with_room v) c.self.view_is
      (room_promoted c.args.page c.self.inside.frames c.promote.new.self (sym c.if-promote.ensures.value) c.promote.ensures.entries));
}

pub returns-in_err-put-clause-after : goal.returns-in_err-put-clause-after
returns-in_err-put-clause-after g c = record {
  asked = search rules;
  pages =
      kept_at_err _ c.args.page c.args.self.now c.put.new.self.entries c.from_residual-in_err-put.result c.from_residual-in_err-put.ensures.1
      (ap (λ (x : LruCache ℕ (List ℕ)). x.entries) c.in_err-put.ensures.err ∙ ap (λ (v : PoolView). v.kept) c.self-2.view_is ∙ c.spare.ensures.room
      ∙ subst (λ (v : PoolView). take (c.promote.new.self.cap - 1) c.promote.new.self.entries ≡ with_room v) c.self.view_is
      (room_promoted c.args.page c.self.inside.frames c.promote.new.self (sym c.if-promote.ensures.value) c.promote.ensures.entries));
}

pub returns-clause-after : goal.returns-clause-after
returns-clause-after g c = record {
  asked = search rules;
  pages =
      let stay = ap (λ (v : PoolView). v.kept) c.self-2.view_is ∙ c.spare.ensures.room
      ∙ subst (λ (v : PoolView). take (c.promote.new.self.cap - 1) c.promote.new.self.entries ≡ with_room v) c.self.view_is
      (room_promoted c.args.page c.self.inside.frames c.promote.new.self (sym c.if-promote.ensures.value) c.promote.ensures.entries) in
      let most = ap (λ (v : PoolView). v.most) c.self-2.view_is ∙ c.spare.ensures.most ∙ ap (λ (x : LruCache ℕ (List ℕ)). x.cap) c.promote.ensures.entries
      ∙ ap (λ (v : PoolView). v.most) c.self.view_is in
      let none : is_kept c.args.page c.args.self.now ≡ false = subst (λ (v : PoolView). is_kept c.args.page v ≡ false) c.self.view_is (sym c.if-promote.ensures.value) in (
        c.read.new.self,
        ap (λ (x : LruCache ℕ (List ℕ)). x.entries) c.in_ok-put.ensures.entries
            ∙ kept_put c.args.page c.read.new.self c.args.self.now c.self-2.inside.frames none stay most,
      );
}
