-- Words of private functions.
pub mod NotedLooks
pub mod PlanLists
