mod CatalogueLaws
mod PathLaws
mod TakenLaws
mod TestLaws
