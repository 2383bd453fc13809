-- What is true of every query that was read over a schema.
use Rattle.std.specs.Prelude.{◌<◌, ◌≤◌, All, length}
use Rattle.tb_model.specs.declared.names.Filter.{Filter}
use Rattle.tb_model.specs.Schemas.{SchemaValue, category_count}
use Rattle.tb_model.specs.Queries.{QueryValue}
use Rattle.tb_model.specs.Places.{places_of}
use Rattle.tb_schema.specs.Names.{IsName}
use Rattle.tb_query.specs.declared.limits.TheConstants.{MOST_DIMENSIONS, MOST_FILTERS}
use Rattle.tb_query.specs.declared.limits.TheConstants.{MOST_PLACES}

-- a filter's name is there, and it has each of the filter's codes
pub record IsFilterOver (schema : SchemaValue) (f : Filter) : Type 0 where
  pub name : IsName schema f.of
  pub codes : All (λ number. number < category_count schema f.of) f.codes

-- the names of its dimensions and its filters are there; it has a dimension, and not too many
-- dimensions, filters or places
pub record IsOver (schema : SchemaValue) (query : QueryValue) : Type 0 where
  pub names : All (IsName schema) query.dimensions
  pub filters : All (IsFilterOver schema) query.filters
  pub some_dimension : 1 ≤ length query.dimensions
  pub few_dimensions : length query.dimensions ≤ MOST_DIMENSIONS
  pub few_filters : length query.filters ≤ MOST_FILTERS
  pub few_places : length (places_of schema query) ≤ MOST_PLACES
