pub mod CalendarLaws
