use Rattle.std.proofs.Common.{sym, ◌∙◌}
use Rattle.rewrite.specs.Steps.{forward, loads, load_store, store_load}
use Rattle.rewrite.specs.declared.working.Question.TheVariants.{Forwards, Permits, Nothing}
use Rattle.ordering.specs.declared.model.Removal.TheVariants as removals
use Rattle.rewrite.proofs.Shapes.{yes_swap, no_swap, wanted_fits, stores_fit, after_forward, after_loads, after_load_store, after_store_load}
use Rattle.rewrite.proofs.look.fits.Goals as goal

pub returns-in_err-b-in-Swap-default : goal.returns-in_err-b-in-Swap-default
returns-in_err-b-in-Swap-default c = rw (c.from_residual-in_err-b-in-Swap-default.ensures, c.in-Swap-default.is-0) (no_swap (sym c.access-in-Swap-default.ensures ∙ c.in_err-b-in-Swap-default.was))

pub returns-in_ok-b-in-Swap-default : goal.returns-in_ok-b-in-Swap-default
returns-in_ok-b-in-Swap-default c = rw c.in-Swap-default.is-0 (yes_swap c.access.ensures c.access-in-Swap-default.ensures (c.in_ok-a-in-Swap-default.was, c.in_ok-b-in-Swap-default.was))

pub returns-in-Forward-Store : goal.returns-in-Forward-Store
returns-in-Forward-Store c = let i = c.in-Forward-Store in rw (i.is-0, i.is-1) (wanted_fits _ (Forwards i.location) (λ K z. forward) (λ K z Y q t. after_forward t) c.if_same.ensures)

pub returns-in-LoadAfterLoad-Load : goal.returns-in-LoadAfterLoad-Load
returns-in-LoadAfterLoad-Load c = let i = c.in-LoadAfterLoad-Load in rw (i.is-0, i.is-1) (wanted_fits _ Nothing (λ K z. loads) (λ K z Y q t. after_loads t) (rw i.is-1 at c.if_same-in-LoadAfterLoad-Load.ensures))

pub returns-in-StoreBeforeStore-Store : goal.returns-in-StoreBeforeStore-Store
returns-in-StoreBeforeStore-Store c = let i = c.in-StoreBeforeStore-Store in rw (i.is-0, i.is-1) (stores_fit _ _ _ _ _ c.then_some.ensures c.stores_to.ensures)

pub returns-in-StoreAfterLoad-Load : goal.returns-in-StoreAfterLoad-Load
returns-in-StoreAfterLoad-Load c = let i = c.in-StoreAfterLoad-Load in rw (i.is-0, i.is-1) (wanted_fits _ (Permits removals.StoreAfterLoad i.location) (λ K z. load_store) (λ K z Y q t. after_load_store t) c.if_same-in-StoreAfterLoad-Load.ensures)

pub returns-in-LoadAfterStore-Store : goal.returns-in-LoadAfterStore-Store
returns-in-LoadAfterStore-Store c = let i = c.in-LoadAfterStore-Store in rw (i.is-0, i.is-1) (wanted_fits _ (Permits removals.LoadAfterStore i.location) (λ K z. store_load) (λ K z Y q t. after_store_load t) c.if_same-in-LoadAfterStore-Store.ensures)
